use Rattle.std.proofs.Common.{◌≡◌, ℕ, List, Some, subst, ap, ◌∙◌}
use Rattle.prodash_base.specs.Rows.{PathRow}
use Rattle.prodash_base.specs.declared.messages.Message.{Message}
use Rattle.prodash_line.specs.declared.render.line.draw.input.Input.{Input}
use Rattle.prodash_line.specs.declared.render.line.draw.input.Input.TheVariants.{Tick}
use Rattle.prodash_line.specs.Screens.{WritesFrame}
use Rattle.prodash_line.specs.Renderer.{Renderer, action_at, frame_bytes, answer_of, is_cursor_hidden, latest_rows, next_renderer}
use Rattle.prodash_line.specs.Tracking.{tracked}
use Rattle.prodash_line.specs.plumbing.EarlierRows.{rows_seen, before_rows}
use Rattle.prodash_line.specs.plumbing.FrameWriting.{LeavesTick, begun, remembering}
use Rattle.prodash_line.specs.plumbing.Observing.{tracker_by}
use Rattle.prodash_line.proofs.Ticks.{remembers}
use Rattle.prodash_line.proofs.render.line.draw.draw_tick.Goals as goal

pub returns : goal.returns
returns g c =
    let past = c.state.inside.past in
    let looked = c.begin_tick-rows.new.self in
    let sent = c.send_frame.new.past in
    let rows = rows_seen c.args.seen.0 (latest_rows past.last_rows) in
    let seen : List PathRow × List Message × ℕ = (rows, c.args.seen.1, c.args.seen.2) in
    let tick : Renderer → Input = λ r. Tick c.args.at c.args.show (Some (rows_seen c.args.seen.0 (latest_rows r.last_rows), seen.1, seen.2)) in
    let input = Tick c.args.at c.args.show (Some seen) in
    let frame = c.in-Ok.frame in
    let before = c.state.inside.tracker in
    let composed = c.compose_tick-composed.new.tracker in
    let kept = c.keep_observed.new.tracker in
    let latest : latest_rows looked.last_rows ≡ rows = ap (λ (x : Renderer). latest_rows x.last_rows) c.begin_tick-rows.ensures.latest in
    let shown : latest_rows sent.last_rows ≡ rows = ap (λ (x : Renderer). latest_rows x.last_rows) c.in_default.ensures.begun ∙ latest in
    let leaves : LeavesTick (tracked past before) input frame composed =
    subst (λ (p : Renderer). LeavesTick (tracked p before) input frame composed) c.begin_tick-rows.ensures.before
    (subst (λ (r : List PathRow). LeavesTick (tracked (before_rows c.begin_tick-rows.result.rows looked) before) (Tick c.args.at c.args.show (Some (r, seen.1, seen.2))) frame composed) latest
    c.in-Ok.ensures.state) in
    let begins : record sent { last_rows = past.last_rows } ≡ record past { cursor_hidden = is_cursor_hidden past } =
    ap (λ (x : Renderer). record x { last_rows = past.last_rows }) (c.in_default.ensures.begun ∙ ap begun c.begin_tick-rows.ensures.latest) in
    record {
      running = c.requires;
      returned = c.remember_tick.ensures.answer ∙ ap answer_of leaves.drawn.action ∙ ap (λ (x : Renderer). answer_of (action_at x (tick x))) c.state.view_is;
      renderer = ap (λ (x : Renderer). tracked x kept) (c.remember_tick.ensures.state ∙ ap (λ (r : List PathRow). remembering frame r seen.2 sent) shown)
          ∙ remembers past (record sent { last_rows = past.last_rows }) before composed kept c.args.at c.args.show seen frame begins leaves
          (c.keep_observed.ensures ∙ ap (λ (r : List PathRow). tracker_by frame.drawn.action composed r) (c.latest_rows-rows.ensures ∙ shown))
          ∙ ap (λ (x : Renderer). next_renderer x (tick x)) c.state.view_is;
      screen = subst (λ bytes. WritesFrame bytes (g.S.Screen.state c.args.screen.now) (g.S.Screen.state c.send_frame.new.screen))
          (c.bytes.ensures ∙ c.in-Ok.ensures.bytes
          ∙ ap (λ (r : List PathRow). frame_bytes (tracked (before_rows c.begin_tick-rows.result.rows looked) before) (Tick c.args.at c.args.show (Some (r, seen.1, seen.2)))) latest
          ∙ ap (λ (p : Renderer). frame_bytes (tracked p before) input) c.begin_tick-rows.ensures.before
          ∙ ap (λ (x : Renderer). frame_bytes x (tick x)) c.state.view_is) c.in_default.ensures.written;
    }
