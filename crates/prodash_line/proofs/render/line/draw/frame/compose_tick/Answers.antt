use Rattle.std.proofs.Common.{rules, ◌≡◌, ℕ, ◌++◌, nat_eq, Bool, List, length, drop, ap, subst, sym, ◌∙◌, refl, Option}
use Rattle.std.specs.Prelude.{not}
use Rattle.std.specs.Option.{option_map}
use Rattle.prodash_base.specs.Timers.{timer_after}
use Rattle.prodash_base.specs.declared.messages.Message.{Message}
use Rattle.prodash_line.specs.declared.render.line.draw.layout.Layout.{Layout}
use Rattle.prodash_line.specs.DrawnLines.{layout_of}
use Rattle.prodash_base.specs.Rows.{PathRow, rows_of}
use Rattle.prodash_line.specs.declared.render.line.draw.input.Input.{Input}
use Rattle.prodash_line.specs.declared.render.line.draw.action.Action.{Action}
use Rattle.prodash_line.specs.declared.render.line.draw.action.Action.TheVariants.{Leave, Redraw, Erase, Close}
use Rattle.prodash_line.specs.Signs.{spelling}
use Rattle.prodash_line.specs.Frames.{covered, message_layout, messages_start, has_lines, frame_start, frame_begin, body_signs}
use Rattle.prodash_line.specs.plumbing.OverwriteBytes.{lines_bytes}
use Rattle.prodash_line.specs.plumbing.FrameWriting.{action_start, action_end, state_by}
use Rattle.prodash_line.specs.Tracking.{tracked}
use Rattle.prodash_line.specs.MessageLines.{message_lines}
use Rattle.prodash_line.specs.Renderer.{Renderer, Drawing, latest_rows, remember, frame_at, drawing_of, drawing_at, tick_action, action_at, printed_at, body_of, opening_of, ending_of, state_after}
use Rattle.prodash_line.proofs.OverwriteBytes.{action_starts, action_ends, begun_with, has_by_length, frame_bytes_of, length-message_lines}
use Rattle.prodash_line.specs.plumbing.KeptLines.{AreAmong, AreKept}
use Rattle.prodash_line.specs.plumbing.EarlierRows.{before_rows, tick_at}
use Rattle.prodash_line.proofs.KeptLines.{among_more}
use Rattle.prodash_line.proofs.render.line.draw.frame.compose_tick.Goals as goal

printed : (c : goal.In_ok-end_frame) → length c.as_slice-messages.result.now ≡ length (message_lines c.args.past.now.options c.args.past.now.origin_widths c.args.seen.now.1)
printed c = ap length c.as_slice-messages.ensures ∙ sym (length-message_lines c.args.past.now.options c.args.past.now.origin_widths c.args.seen.now.1)

left_is : (c : goal.In_ok-end_frame) → c.widths_below-left.result.now ≡ drop (length c.as_slice-messages.result.now) c.args.past.now.widths
left_is c = search rules

abbrev input : goal.In_ok-end_frame → Input
input c = tick_at c.args.at c.args.show c.args.past.now c.args.seen.now

-- the renderer before the tick
abbrev past : goal.In_ok-end_frame → Renderer
past c = before_rows c.args.seen.now.0 c.args.past.now

abbrev whole : goal.In_ok-end_frame → Renderer
whole c = tracked (past c) c.args.tracker.now

abbrev drawing : goal.In_ok-end_frame → Drawing
drawing c = drawing_of (record (whole c) { options = c.past.inside.options; timer = c.in_ok-timer.timer }) c.args.at (rows_of c.latest_rows-rows.result.now)

-- the timer has seen the rows of the tick
timer_is : (c : goal.In_ok-end_frame) → c.in_ok-timer.timer ≡ (remember (whole c) (input c)).timer
timer_is c = c.in_ok-timer.ensures.ok ∙ ap (λ rows. option_map (λ t. timer_after t c.args.at rows) c.args.past.now.timer) c.latest_rows-rows.ensures

drawing_is : (c : goal.In_ok-end_frame) → drawing c ≡ drawing_at (whole c) (input c)
drawing_is c =
    ap (λ (x : Renderer). drawing_of (record (whole c) { options = x.options; timer = c.in_ok-timer.timer }) c.args.at (rows_of c.latest_rows-rows.result.now)) c.past.view_is
    ∙ ap (λ timer. drawing_of (record (whole c) { timer = timer }) c.args.at (rows_of c.latest_rows-rows.result.now)) (timer_is c)
    ∙ ap (λ rows. drawing_of (remember (whole c) (input c)) c.args.at rows) c.latest_rows-rows.ensures

action_is : (c : goal.In_ok-end_frame) → c.tick_action-action.result ≡ action_at (past c) (input c)
action_is c =
    c.tick_action-action.ensures
    ∙ ap (λ (empty : Bool). tick_action (past c) c.args.show (not empty) (latest_rows c.args.past.now.last_rows))
    (c.is_empty-has_messages.ensures ∙ ap (λ (messages : List Message). nat_eq (length messages) 0) c.as_slice-messages.ensures)

layout_is : (c : goal.In_ok-end_frame) → c.layout-layout.result ≡ layout_of c.args.past.now.options
layout_is c = search rules

covered_is : (c : goal.In_ok-end_frame) → c.covered_widths.result.now ≡ covered (layout_of c.args.past.now.options) c.args.past.now.widths
covered_is c =
    c.covered_widths.ensures
    ∙ ap (λ (l : Layout). covered l c.deref-2.result.now) (layout_is c)
    ∙ ap (covered (layout_of c.args.past.now.options)) (c.deref-2.ensures.value ∙ ap (λ (x : Renderer). x.widths) c.past.view_is)

over : (c : goal.In_ok-end_frame) → c.write_messages.new.out.bytes
    ≡ c.start_messages.new.out.bytes ++ lines_bytes (message_layout (layout_of c.args.past.now.options)) (covered (layout_of c.args.past.now.options) c.args.past.now.widths) (printed_at (past c) (input c))
over c =
    let r = c.args.past.now in
    let before = c.start_messages.new.out.bytes in
    let messages = c.as_slice-messages.result.now in
    let origins = c.in_ok-origin_widths.origin_widths.items in
    let widths = covered (layout_of r.options) r.widths in
    let kept : origins ≡ r.origin_widths = c.in_ok-origin_widths.ensures.items ∙ c.deref.ensures.value ∙ ap (λ (x : Renderer). x.origin_widths) c.past.view_is in
    c.in_ok-write_messages.ensures.bytes
    ∙ ap (λ (x : Renderer). before ++ lines_bytes (message_layout (layout_of x.options)) c.covered_widths.result.now (message_lines x.options origins messages)) c.past.view_is
    ∙ ap (λ (ws : List ℕ). before ++ lines_bytes (message_layout (layout_of r.options)) ws (message_lines r.options origins messages)) (covered_is c)
    ∙ ap (λ (os : List ℕ). before ++ lines_bytes (message_layout (layout_of r.options)) widths (message_lines r.options os messages)) kept
    ∙ ap (λ (ms : List Message). before ++ lines_bytes (message_layout (layout_of r.options)) widths (message_lines r.options r.origin_widths ms)) c.as_slice-messages.ensures

has_is : (c : goal.In_ok-end_frame) → not c.is_empty-has_messages.result ≡ has_lines (printed_at (past c) (input c))
has_is c = ap not (c.is_empty-has_messages.ensures ∙ ap (λ (n : ℕ). nat_eq n 0) (printed c)) ∙ has_by_length (printed_at (past c) (input c))

-- what the frame begins with, up to its messages
begins : (c : goal.In_ok-end_frame) → let r = whole c in
    let layout = c.layout-layout.result in
    action_start layout c.tick_action-action.result ++ messages_start layout (not c.is_empty-has_messages.result)
    ≡ frame_begin (layout_of r.options) (printed_at r (input c)) (body_of (action_at r (input c)) (drawing_at r (input c)) (ending_of r))
begins c =
    let r = whole c in
    let layout = layout_of r.options in
    let some = not c.is_empty-has_messages.result in
    let body = body_of (action_at r (input c)) (drawing_at r (input c)) (ending_of r) in
    ap (λ (l : Layout). action_start l c.tick_action-action.result ++ messages_start l some) (layout_is c)
    ∙ ap (λ action. action_start layout action ++ messages_start layout some) (action_is c)
    ∙ ap (λ signs. signs ++ messages_start layout some) (action_starts layout (action_at r (input c)) (drawing_at r (input c)) (ending_of r))
    ∙ ap (λ b. frame_start layout body ++ messages_start layout b) (has_is c)

-- what is left doesn't depend on the rows that are remembered
leaves_same : (action : Action) (r : Renderer) (rows : Option (List PathRow)) (drawing : Drawing) (widths : List ℕ)
    → state_after action r drawing widths ≡ state_after action (record r { last_rows = rows }) drawing widths
leaves_same Leave r rows drawing widths = refl
leaves_same Redraw r rows drawing widths = refl
leaves_same Erase r rows drawing widths = refl
leaves_same Close r rows drawing widths = refl

pub write_body-requires : goal.write_body-requires
write_body-requires c = record {
  kept = subst (λ (rows : List PathRow). AreKept c.take_for-kept.result rows) (sym c.rows_before.ensures) (c.take_for-kept.ensures.taken _ c.requires);
}

pub returns-clause-bytes : goal.returns-clause-bytes
returns-clause-bytes c =
    let r = whole c in
    let before = c.write_messages.new.out.bytes in
    let left = c.widths_below-left.result.now in
    let layout = layout_of r.options in
    let action = action_at r (input c) in
    frame_bytes_of (frame_at r (input c)) _ _ r.widths left c.start_messages.new.out.bytes before c.write_body.new.out.bytes _ (length c.as_slice-messages.result.now)
    (begun_with (opening_of r) _ _ c.begin_frame.new.out.bytes c.start_messages.new.out.bytes c.in_ok-begin_frame.ensures c.in_ok-start_messages.ensures)
    (begins c)
    (ap (λ (l : Layout). action_end l c.tick_action-action.result) (layout_is c) ∙ ap (action_end layout) (action_is c) ∙ action_ends layout action (drawing_at r (input c)) (ending_of r))
    (over c) (left_is c) (printed c)
    (c.in_ok-drawn.ensures.bytes
    ∙ ap (λ (x : Renderer). before ++ spelling (body_signs (layout_of x.options) left (body_of c.tick_action-action.result (drawing c) (ending_of r)))) c.past.view_is
    ∙ ap (λ action. before ++ spelling (body_signs layout left (body_of action (drawing c) (ending_of r)))) (action_is c)
    ∙ ap (λ d. before ++ spelling (body_signs layout left (body_of action d (ending_of r)))) (drawing_is c))
    c.in_ok-end_frame.ensures

pub returns-clause-state : goal.returns-clause-state
returns-clause-state c =
    let r = whole c in
    record {
      drawn = record {
        state = ap (λ rows. state_by c.in_ok-drawn.drawn c.write_body.new.tracker rows) (sym c.latest_rows-rows.ensures)
            ∙ c.in_ok-drawn.ensures.state.state
            ∙ leaves_same c.tick_action-action.result (tracked c.args.past.now c.args.tracker.now) (past c).last_rows (drawing c) c.widths_below-left.result.now
            ∙ ap (λ action. state_after action r (drawing c) c.widths_below-left.result.now) (action_is c)
            ∙ ap (λ d. state_after (action_at r (input c)) r d c.widths_below-left.result.now) (drawing_is c)
            ∙ ap (λ left. state_after (action_at r (input c)) r (drawing_at r (input c)) left) (left_is c ∙ ap (λ n. drop n r.widths) (printed c));
        action = c.in_ok-drawn.ensures.state.action ∙ action_is c;
      };
      origin_widths = search rules;
      timer = timer_is c;
    }

pub returns-clause-lines : goal.returns-clause-lines
returns-clause-lines c =
    let r = c.args.past.now in
    subst (λ (rows : List PathRow). AreAmong r.options r.midpoint rows c.end_frame.new.out.bytes c.in_ok-drawn.drawn.lines.items) c.latest_rows-rows.ensures
    (among_more r.options r.midpoint (rows_of c.latest_rows-rows.result.now) c.write_body.new.out.bytes _ c.end_frame.new.out.bytes _ c.in_ok-end_frame.ensures
    (subst (λ (x : Renderer). AreAmong x.options r.midpoint (rows_of c.latest_rows-rows.result.now) c.write_body.new.out.bytes c.in_ok-drawn.drawn.lines.items) c.past.view_is c.in_ok-drawn.ensures.lines))

pub returns-clause-rows : goal.returns-clause-rows
returns-clause-rows c = λ stay. c.rows_stay-rows_stay.ensures stay (past c).last_rows (not c.is_empty-has_messages.result) (latest_rows c.args.past.now.last_rows) c.tick_action-action.ensures
