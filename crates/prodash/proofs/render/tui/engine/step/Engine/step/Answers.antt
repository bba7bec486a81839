use Rattle.std.proofs.Common.{rules, ◌≡◌}
use Rattle.prodash.proofs.DashboardSteps.{engine_stops}
use Rattle.prodash.proofs.render.tui.engine.step.Engine.step.Goals as goal

pub returns-in-Stop-clause-step : goal.returns-in-Stop-clause-step
returns-in-Stop-clause-step g c =
    engine_stops g.S.Screen.state g.W.WeakRoot.finds g.W.Root.Root.looks c.args.self.now c.take.new.self c.close.new.self c.args.event c.take.result c.close.result
    (search rules) c.take.ensures.screen c.take.ensures.told c.in-Stop.is c.close.ensures.leaves c.close.ensures.again
