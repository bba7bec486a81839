use Rattle.std.proofs.Common.{◌≡◌, map}
use Rattle.std.specs.Map.Iter.{deref}
use Rattle.circular_buffer.specs.Buffer.{buffer, keep_last}
use Rattle.prodash_base.proofs.messages.ring.copied.Given as goal

abbrev pub invariant-loop-message : goal.invariant-loop-message
invariant-loop-message l = l.copy ≡ buffer (keep_last l.ring.capacity (map deref l.yielded)) l.ring.capacity
