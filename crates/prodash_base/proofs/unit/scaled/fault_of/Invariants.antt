use Rattle.std.proofs.Common.{◌≡◌, ◌+◌}
use Rattle.std.specs.Prelude.{drop}
use Rattle.prodash_base.specs.Scales.{scales_fault}
use Rattle.prodash_base.proofs.unit.scaled.fault_of.Given as goal

abbrev pub invariant-loop-place : goal.invariant-loop-place
invariant-loop-place l =
    scales_fault (l.place + 1) l.before (drop l.place l.scales) ≡ scales_fault 1 0 l.scales
