use Rattle.prodash_core.proofs.TreeSteps.{told, applies_step}
use Rattle.prodash_core.proofs.tree.session.Session.apply_any.Goals as goal

pub returns-in_default : goal.returns-in_default
returns-in_default g c =
    rw (← c.self.view_is, told c.apply.result c.unwrap_or_else.result c.unwrap_or_else.ensures)
    (applies_step (record { tree = c.self.inside.tree; renderer = c.self.inside.renderer }) (g.S.Screen.state c.args.screen.now) c.args.event.now c.apply.result c.apply.new.self c.apply.ensures)
