use Rattle.std.proofs.Common.{◌≡◌, ℕ, ◌++◌, List, ap, subst, sym, ◌∙◌, append-nil, refl}
use Rattle.prodash_base.specs.Rows.{rows_of}
use Rattle.prodash_line.specs.declared.render.line.draw.action.Action.{Action}
use Rattle.prodash_line.specs.declared.render.line.draw.input.Input.{Input}
use Rattle.prodash_line.specs.declared.render.line.draw.input.Input.TheVariants.{Resize}
use Rattle.prodash_line.specs.declared.render.line.draw.input.Options.{Options}
use Rattle.prodash_line.specs.declared.render.line.draw.layout.Layout.{Layout}
use Rattle.prodash_line.specs.Signs.{spelling}
use Rattle.prodash_line.specs.DrawnLines.{layout_of}
use Rattle.prodash_line.specs.Frames.{body_signs}
use Rattle.prodash_line.specs.plumbing.FrameWriting.{action_start, action_end, state_by}
use Rattle.prodash_line.specs.Tracking.{tracked}
use Rattle.prodash_line.specs.Renderer.{Renderer, Drawing, frame_at, remember, drawing_of, drawing_at, action_at, body_of, ending_of, state_after}
use Rattle.prodash_line.proofs.OverwriteBytes.{begins_without, action_ends, frame_bytes_of}
use Rattle.std.specs.List.{All}
use Rattle.std.proofs.lemmas.List.Elements.{All-nil}
use Rattle.prodash_line.specs.plumbing.KeptLines.{IsAmong, drawn_in}
use Rattle.prodash_line.proofs.render.line.draw.frame.compose_resized.Goals as goal

abbrev input : goal.In_ok-end_frame → Input
input c = Resize c.args.at c.args.show c.args.size.0 c.args.size.1

-- the renderer
abbrev whole : goal.In_ok-end_frame → Renderer
whole c = tracked c.args.past.now c.args.tracker.now

-- the options that the frame is drawn with
abbrev sized : goal.In_ok-end_frame → Options
sized c = record c.past.inside.options { terminal_dimensions = c.args.size }

sized_is : (c : goal.In_ok-end_frame) → sized c ≡ (remember c.args.past.now (input c)).options
sized_is c = ap (λ (x : Renderer). record x.options { terminal_dimensions = c.args.size }) c.past.view_is

abbrev drawing : goal.In_ok-end_frame → Drawing
drawing c = drawing_of (record (whole c) { options = sized c; timer = c.past.inside.timer }) c.args.at (rows_of c.latest_rows.result.now)

drawing_is : (c : goal.In_ok-end_frame) → drawing c ≡ drawing_at (whole c) (input c)
drawing_is c =
    ap (λ (o : Options). drawing_of (record (whole c) { options = o; timer = c.past.inside.timer }) c.args.at (rows_of c.latest_rows.result.now)) (sized_is c)
    ∙ ap (λ (x : Renderer). drawing_of (record (remember (whole c) (input c)) { timer = x.timer }) c.args.at (rows_of c.latest_rows.result.now)) c.past.view_is
    ∙ ap (λ rows. drawing_of (remember (whole c) (input c)) c.args.at rows) c.latest_rows.ensures

left_is : (c : goal.In_ok-end_frame) → c.deref.result.now ≡ c.args.past.now.widths
left_is c = c.deref.ensures.value ∙ ap (λ (x : Renderer). x.widths) c.past.view_is

pub write_body-requires : goal.write_body-requires
write_body-requires c =
    let kept = c.new-kept.result in
    let P = IsAmong kept.options kept.midpoint (drawn_in c.none.result) kept.bytes in
    record { kept = subst (All P) (sym c.new-kept.ensures) (All-nil P) }

pub returns-clause-bytes : goal.returns-clause-bytes
returns-clause-bytes c =
    let r = whole c in
    let before = c.begin_frame.new.out.bytes in
    let left = c.deref.result.now in
    let layout = layout_of (remember r (input c)).options in
    let action = action_at r (input c) in
    let ending = ending_of r in
    frame_bytes_of (frame_at r (input c)) _ _ r.widths left before before c.write_body.new.out.bytes _ 0
    c.in_ok-begin_frame.ensures
    (ap (λ (l : Layout). action_start l c.resize_action-action.result) (c.layout-layout.ensures ∙ ap layout_of (sized_is c))
    ∙ ap (action_start layout) c.resize_action-action.ensures ∙ begins_without layout action (drawing_at r (input c)) ending)
    (ap (λ (l : Layout). action_end l c.resize_action-action.result) (c.layout-layout.ensures ∙ ap layout_of (sized_is c))
    ∙ ap (action_end layout) c.resize_action-action.ensures ∙ action_ends layout action (drawing_at r (input c)) ending)
    (sym (append-nil before)) (left_is c) refl
    (c.in_ok-drawn.ensures.bytes
    ∙ ap (λ (o : Options). before ++ spelling (body_signs (layout_of o) left (body_of c.resize_action-action.result (drawing c) ending))) (sized_is c)
    ∙ ap (λ (a : Action). before ++ spelling (body_signs layout left (body_of a (drawing c) ending))) c.resize_action-action.ensures
    ∙ ap (λ (d : Drawing). before ++ spelling (body_signs layout left (body_of action d ending))) (drawing_is c))
    c.in_ok-end_frame.ensures

pub returns-clause-state : goal.returns-clause-state
returns-clause-state c =
    let r = whole c in
    let action = action_at r (input c) in
    record {
      state = ap (λ rows. state_by c.in_ok-drawn.drawn c.write_body.new.tracker rows) (sym c.latest_rows.ensures)
          ∙ c.in_ok-drawn.ensures.state.state
          ∙ ap (λ (a : Action). state_after a r (drawing c) c.deref.result.now) c.resize_action-action.ensures
          ∙ ap (λ (d : Drawing). state_after action r d c.deref.result.now) (drawing_is c)
          ∙ ap (λ (left : List ℕ). state_after action r (drawing_at r (input c)) left) (left_is c);
      action = c.in_ok-drawn.ensures.state.action ∙ c.resize_action-action.ensures;
    }
