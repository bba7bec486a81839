use Rattle.std.proofs.Common.{◌-◌, length}
use Rattle.std.specs.Prelude.{⊤}
use Rattle.prodash_line.proofs.render.line.draw.latest_rows.RowsBefore.resemble.Given as goal

abbrev pub invariant-loop-n : goal.invariant-loop-n
invariant-loop-n l = ⊤

abbrev pub decreases-loop-n : goal.decreases-loop-n
decreases-loop-n l = length l.rows - l.n
