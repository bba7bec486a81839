use Rattle.std.proofs.Common.{refl, sym, ap, ◌∙◌}
use Rattle.prodash_line.specs.plumbing.Cutting.{room_of}
use Rattle.prodash_line.proofs.LineWriting.{begins}
use Rattle.prodash_line.proofs.render.line.draw.line_writer.LineWriter.begin_line.Goals as goal
use Rattle.prodash_line.proofs.render.line.draw.line_writer.LineWriter.begin_line.Goals.{in-Some, in-None}

pub returns : goal.returns
returns c = begins c.args.limit c.args.self.now _ refl refl refl (elim c.match-limit.branch [ in-Some w ↦ w.self-is ∙ ap room_of (sym w.in-Some.is) | in-None w ↦ w.self-is ∙ ap room_of (sym w.in-None.is) ])
