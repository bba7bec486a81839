use Rattle.std.proofs.Common.{List, ℕ, ◌++◌, ap, ◌∙◌}
use Rattle.prodash_base.specs.Rows.{row_of}
use Rattle.prodash_line.specs.ProgressRows.{DrawnRow}
use Rattle.prodash_line.specs.plumbing.FrameWriting.{bytes_in}
use Rattle.prodash_line.proofs.LineCopying.{composed, copied}
use Rattle.prodash_line.proofs.render.line.draw.frame.write_line.Goals as goal

pub returns-in-Some-clause-bytes : goal.returns-in-Some-clause-bytes
returns-in-Some-clause-bytes c =
    let scene = c.args.scene.now in
    let drawn : DrawnRow = (row_of c.args.measured.0.now, c.args.measured.1) in
    copied c.args.copier.now c.find.new.self c.copy_line.new.self scene.options scene.past.now.midpoint drawn c.in-Some.size c.args.old_width
    c.requires.left c.find.ensures.skips c.in-Some.ensures.found c.in_ok-copy_line.ensures

pub returns-in-Some-clause-size : goal.returns-in-Some-clause-size
returns-in-Some-clause-size c =
    let scene = c.args.scene.now in
    (c.in-Some.ensures.found scene.options scene.past.now.midpoint (c.find.ensures.skips.left scene.options scene.past.now.midpoint c.requires.left)).size

pub returns-clause-bytes : goal.returns-clause-bytes
returns-clause-bytes c =
    let drawn : DrawnRow = (row_of c.args.measured.0.now, c.args.measured.1) in
    let line = bytes_in c.args.scene.now drawn c.args.old_width in
    composed c.args.copier.now c.find.new.self c.push.new.self c.bytes.result.now line c.find.ensures.skips
    (c.bytes.ensures ∙ c.in_ok-size.ensures.bytes ∙ ap (λ (t : List ℕ). t ++ line) c.clear_bytes.ensures) c.in_ok-push.ensures
