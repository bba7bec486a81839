use Rattle.std.proofs.Common.{arith, ◌≡◌, ◌<◌, ◌∙◌, ◌∷◌, drop, ap, [], inl, inr}
use Rattle.prodash_base.specs.Samples.{duration, change, one_second, latest_over}
use Rattle.prodash_base.proofs.SampleLaws.{left_over, none_left, latest_over-over}
use Rattle.prodash_base.proofs.JoinedSamples.{capped, first-long, first-rise, rate-counted}
use Rattle.prodash_base.proofs.throughput.rate.rate_over.Goals as goal
use Rattle.prodash_base.proofs.throughput.rate.rate_over.Goals.{then-loop-index-test+else-nanoseconds-from, else-loop-index-test}

pub loop-index-init : goal.loop-index-init
loop-index-init c = record {
  nanoseconds = first-long c.from-nanoseconds.result c.args.latest c.args.samples.now.items c.from-nanoseconds.ensures;
  change = first-rise c.from-nanoseconds.result c.args.latest c.args.samples.now.items c.from-nanoseconds.ensures;
  span = omega (arith, c.from-nanoseconds.ensures);
  within = omega arith;
}

all_taken : (c : goal.Left-loop-index) → left_over c.loop-index.nanoseconds (drop c.loop-index.index c.args.samples.now.items) ≡ []
all_taken c = elim c.loop-index-test.branch [
  | then-loop-index-test+else-nanoseconds-from w ↦ none_left c.loop-index.nanoseconds c.loop-index.index c.args.samples.now.items (inr (omega arith))
  | else-loop-index-test w ↦ none_left c.loop-index.nanoseconds c.loop-index.index c.args.samples.now.items (inl (omega arith))
]

pub per_second-requires-clause-over : goal.per_second-requires-clause-over
per_second-requires-clause-over c =
    omega (arith, c.loop-index.invariant.nanoseconds, ap duration (all_taken c), latest_over-over one_second (c.args.latest ∷ c.args.samples.now.items) c.requires)

pub returns : goal.returns
returns c =
    let left : goal.Left-loop-index = c.before in
    let all = latest_over one_second (c.args.latest ∷ c.args.samples.now.items) in
    let long : c.loop-index.nanoseconds ≡ duration all = omega (arith, c.loop-index.invariant.nanoseconds, ap duration (all_taken left)) in
    let rise : capped c.loop-index.change ≡ capped (change all) = omega (arith, c.loop-index.invariant.change, ap change (all_taken left)) in
    let over : one_second < c.loop-index.nanoseconds = per_second-requires-clause-over left in
    c.per_second.ensures ∙ rate-counted c.loop-index.change c.loop-index.nanoseconds all long rise (omega arith) (omega (arith, c.loop-index.invariant.span))
