use Rattle.std.proofs.Common.{rules, ◌≡◌}
use Rattle.prodash.proofs.DashboardSteps.{left_broken, left_whole}
use Rattle.prodash.proofs.render.tui.engine.step.Engine.close.Goals as goal

pub returns-in_err-write_frame-clause-leaves : goal.returns-in_err-write_frame-clause-leaves
returns-in_err-write_frame-clause-leaves g c unclosed =
    left_broken c.self.inside.size c.self.inside.dashboard c.close.new.self c.args.self.now.board c.deref.result.now _ _ _ (search rules) (search rules) (search rules) (search rules) (search rules)

pub returns-clause-leaves : goal.returns-clause-leaves
returns-clause-leaves g c unclosed =
    left_whole c.self.inside.size c.self.inside.dashboard c.close.new.self c.args.self.now.board c.deref.result.now _ _ (search rules) (search rules) (search rules) (search rules)
