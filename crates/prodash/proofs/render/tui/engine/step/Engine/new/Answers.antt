use Rattle.std.proofs.Common.{◌≡◌, ◌∙◌, ap, refl}
use Rattle.prodash_tui.specs.Boards.{new_board}
use Rattle.prodash.proofs.DashboardSteps.{has_new_parts}
use Rattle.prodash.proofs.render.tui.engine.step.Engine.new.Goals as goal

pub returns : goal.returns
returns g c =
    let board = c.new.ensures.dashboard ∙ ap (λ s. new_board c.args.options s c.args.size.0 c.args.size.1) c.new.ensures.state in
    (c.new.result.state.information, c.new.ensures.information, has_new_parts _ c.args.options c.new.result.state.information c.args.size c.args.screen c.args.weak board refl refl refl)
