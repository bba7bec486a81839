use Rattle.std.proofs.Common.{◌≡◌, ◌≤◌, map, length, take}
use Rattle.std.specs.Map.Iter.{deref}
use Rattle.prodash_base.proofs.messages.ring.copies.Given as goal

abbrev pub invariant-loop-message : goal.invariant-loop-message
invariant-loop-message l = (l.copied ≤ length l.list.items) × (take l.copied l.list.items ≡ map deref l.yielded)
