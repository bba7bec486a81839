use Rattle.std.proofs.Common.{List, sym, ap, ◌∙◌}
use Rattle.prodash_base.specs.declared.messages.Message.{Message}
use Rattle.prodash_core.specs.declared.render.tui.event.Rect.{Rect}
use Rattle.prodash_tui.specs.MessagePanes.{with_message, with_messages}
use Rattle.prodash_tui.proofs.draw.messages.draw_messages.Goals as goal

pub loop-message-preserved : goal.loop-message-preserved
loop-message-preserved c =
    let area = c.args.area in
    let width = c.args.width in
    let m = c.in-Some.message.now in
    let newer = c.in-Some.newer.now in
    let g = c.loop-message.grid in
    ap (with_messages area width newer) (c.in_ok-draw_message.ensures.ok ∙ ap (λ (row : Rect). with_message row width m g) c.line_bound.ensures)
    ∙ ap (λ (ms : List Message). with_messages area width ms g) (sym c.in-Some.ensures.cases.0)
    ∙ c.loop-message.invariant
