use Rattle.std.proofs.Common.{◌≡◌, arith, length, List, ap, sym, subst, ◌∙◌}
use Rattle.prodash_base.specs.declared.throughput.sample.Sample.{Sample}
use Rattle.prodash_base.specs.plumbing.KeptSamples.{Sums, with_change, settled_of}
use Rattle.prodash_base.proofs.KeptSamples.{length-settled, settled-twice, before_same}
use Rattle.prodash_base.proofs.throughput.kept.Kept.take_back.Goals as goal

pub invariant_of-self : goal.invariant_of-self
invariant_of-self c =
    let self = c.args.self.now in
    let samples = self.samples.items in
    let new = c.set_change.new.samples.items in
    let back : new ≡ settled_of self.settled self.settled_change samples =
    c.set_change.ensures ∙ ap (with_change self.settled_change) c.keep_earliest.ensures in
    let long : length new ≡ self.settled = ap length back ∙ length-settled self.settled self.settled_change samples self.sums_before.within in
    let sums : Sums c.in-Some.before new = subst (λ (xs : List Sample). Sums c.in-Some.before xs) (sym back) (self.sums_before.sums c.in-Some.before c.in-Some.is) in
    record {
      sums = sums;
      sums_before = before_same self.settled self.settled_change self.before samples new (omega (arith, long))
          (ap (settled_of self.settled self.settled_change) back ∙ settled-twice self.settled self.settled_change samples self.sums_before.within) self.sums_before;
      settles = record { within = omega (arith, sums.older, long); none = self.settles.none; all = self.settles.all };
    }
