use Rattle.std.proofs.Common.{◌≡◌, ◌-◌, take}
use Rattle.prodash.proofs.render.plain.told.parent_of.Given as goal

abbrev pub invariant-loop-level : goal.invariant-loop-level
invariant-loop-level l = l.parent ≡ take (l.level - 1) l.key
