use Rattle.std.proofs.Common.{length}
use Rattle.prodash_line.specs.plumbing.LineCopying.{Skips}
use Rattle.prodash_line.proofs.render.line.draw.line_copier.LineCopier.go_on_to.Given as goal

abbrev pub invariant-loop-line : goal.invariant-loop-line
invariant-loop-line l = record { skips : Skips l.fn.self l.self }

abbrev pub decreases-loop-line : goal.decreases-loop-line
decreases-loop-line l = length l.self.lines.1
