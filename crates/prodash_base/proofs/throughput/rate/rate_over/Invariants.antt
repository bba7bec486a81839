use Rattle.std.proofs.Common.{◌≡◌, ◌≤◌, ◌∷◌, drop, length, ◌+◌, ◌-◌}
use Rattle.prodash_base.specs.Samples.{latest_over, change, duration, one_second}
use Rattle.prodash_base.proofs.SampleLaws.{left_over}
use Rattle.prodash_base.proofs.JoinedSamples.{capped}
use Rattle.prodash_base.proofs.throughput.rate.rate_over.Given as goal

abbrev pub invariant-loop-index : goal.invariant-loop-index
invariant-loop-index l =
    let all = latest_over one_second (l.fn.latest ∷ l.samples.items) in
    let left = left_over l.nanoseconds (drop l.index l.samples.items) in
    record {
      nanoseconds : l.nanoseconds + duration left ≡ duration all;
      change : capped (l.change + change left) ≡ capped (change all);
      span : l.nanoseconds ≤ 1000000000 + 18446744073709551615;
      within : l.index ≤ length l.samples.items;
    }

abbrev pub decreases-loop-index : goal.decreases-loop-index
decreases-loop-index l = length l.samples.items - l.index
