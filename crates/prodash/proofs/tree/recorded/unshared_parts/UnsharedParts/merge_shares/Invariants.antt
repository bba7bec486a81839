use Rattle.std.specs.Prelude.{◌≡◌, ◌+◌, length}
use Rattle.prodash.specs.Journals.{calls_of, sum_of}
use Rattle.prodash.proofs.tree.recorded.unshared_parts.UnsharedParts.merge_shares.Given as goal

abbrev pub invariant-loop-share : goal.invariant-loop-share
invariant-loop-share g l =
    (l.calls.parts ≡ l.fn.self.call_part.parts + length l.yielded)
    × (l.calls.amount ≡ calls_of l.yielded)
    × (l.sums.parts ≡ l.fn.self.sum_part.parts + length l.yielded)
    × (l.sums.amount ≡ sum_of l.yielded)
