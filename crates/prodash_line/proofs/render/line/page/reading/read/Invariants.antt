use Rattle.std.proofs.Common.{◌≡◌, ◌++◌, length}
use Rattle.prodash_line.specs.Signs.{spelling}
use Rattle.prodash_line.specs.Reading.{AreProper}
use Rattle.prodash_line.proofs.render.line.page.reading.read.Given as goal

abbrev pub invariant-loop-rest : goal.invariant-loop-rest
invariant-loop-rest l = record { proper : AreProper l.signs.items; spells : l.bytes ≡ spelling l.signs.items ++ l.rest }

abbrev pub decreases-loop-rest : goal.decreases-loop-rest
decreases-loop-rest l = length l.rest
