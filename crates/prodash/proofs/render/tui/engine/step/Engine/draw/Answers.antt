use Rattle.std.proofs.Common.{rules, ◌≡◌}
use Rattle.prodash.specs.plumbing.DashboardSteps.{sized}
use Rattle.prodash.proofs.DashboardSteps.{engine_ends, engine_shows}
use Rattle.prodash.proofs.render.tui.engine.step.Engine.draw.Goals as goal

pub returns-then-not-is_shown-clause-frame : goal.returns-then-not-is_shown-clause-frame
returns-then-not-is_shown-clause-frame g c =
    engine_ends g.S.Screen.state g.W.WeakRoot.finds g.W.Root.Root.looks c.args.self.now c.look.new.self c.close-then-not-is_shown.new.self c.args.at
    (c.in-Some.rows, c.in-Some.messages, c.in-Some.field-0-2) c.close-then-not-is_shown.result
    c.look.ensures.kept c.requires.running (search rules) (search rules) c.close-then-not-is_shown.ensures.leaves

pub returns-clause-frame : goal.returns-clause-frame
returns-clause-frame g c =
    engine_shows g.S.Screen.state g.W.WeakRoot.finds g.W.Root.Root.looks c.args.self.now c.look.new.self c.draw_frame-answer.new.self
    (sized c.self.inside.size c.self.inside.dashboard) c.self.inside.screen c.args.at
    (c.in-Some.rows, c.in-Some.messages, c.in-Some.field-0-2) c.draw_frame-answer.result
    c.look.ensures.kept (search rules) (search rules) (search rules) (search rules) c.draw_frame-answer.ensures.frame
