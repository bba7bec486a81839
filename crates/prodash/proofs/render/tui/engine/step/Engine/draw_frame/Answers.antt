use Rattle.std.proofs.Common.{rules, ◌≡◌, refl}
use Rattle.prodash_tui.specs.declared.dashboard.contents.Contents.{Contents}
use Rattle.prodash.specs.DashboardEngines.{AreContents}
use Rattle.prodash.proofs.DashboardSteps.{frame_broken, frame_whole}
use Rattle.prodash.proofs.render.tui.engine.step.Engine.draw_frame.Goals as goal

pub returns-in_err-write_frame-clause-frame : goal.returns-in_err-write_frame-clause-frame
returns-in_err-write_frame-clause-frame g c =
    let contents : Contents = record { rows = c.as_slice.result; messages = c.as_slice-2.result; at = c.args.at; time = c.deref.result } in
    let are : AreContents c.args.rows.now c.args.messages.now c.args.at contents =
    record { has_rows = search rules; has_messages = search rules; has_moment = refl; has_time = search rules } in
    frame_broken c.take_size.new.size c.take_size.new.dashboard c.draw.new.self c.args.self.now.board c.args.at c.args.rows.now c.args.messages.now contents c.deref-2.result.now _ _ _
    (search rules) (search rules) are (search rules) (search rules) (search rules) (search rules)

pub returns-clause-frame : goal.returns-clause-frame
returns-clause-frame g c =
    let contents : Contents = record { rows = c.as_slice.result; messages = c.as_slice-2.result; at = c.args.at; time = c.deref.result } in
    let are : AreContents c.args.rows.now c.args.messages.now c.args.at contents =
    record { has_rows = search rules; has_messages = search rules; has_moment = refl; has_time = search rules } in
    frame_whole c.take_size.new.size c.take_size.new.dashboard c.draw.new.self c.args.self.now.board c.args.at c.args.rows.now c.args.messages.now contents c.deref-2.result.now _ _
    (search rules) are (search rules) (search rules) (search rules) (search rules)
