use Rattle.std.proofs.Common.{◌≡◌, ◌<◌, ◌+◌, ◌∷◌, arith, true, false, length, List, Some, refl, sym, ap, subst, ◌∙◌}
use Rattle.std.specs.Prelude.{nat_lt}
use Rattle.std.specs.Option.{option_map}
use Rattle.prodash_base.specs.Samples.{one_second, duration, rate_over}
use Rattle.prodash_base.specs.declared.throughput.sample.Sample.{Sample}
use Rattle.prodash_base.specs.declared.throughput.totals.Totals.{Totals}
use Rattle.prodash_base.specs.plumbing.KeptSamples.{Sums, Settles, summary_at, sample_after, with_latest, settled_of}
use Rattle.prodash_base.proofs.SampleLaws.{not_below}
use Rattle.prodash_base.proofs.KeptSamples.{over_mark, mark_is, mark_sums, more_is, more_sums, length-earliest, length-with, settled-with, settled-back, before_same}
use Rattle.prodash_base.proofs.throughput.kept.Kept.add.Goals as goal

pub rate_over-rate-requires : goal.rate_over-rate-requires
rate_over-rate-requires c =
    let t = c.args.self.now.latest in
    let samples = c.args.self.now.samples.items in
    let test : nat_lt one_second (c.args.observation.elapsed + t.taken) ≡ true =
    ap (λ (s : Sample). nat_lt one_second (s.elapsed + t.taken)) (sym c.sample-sample.ensures) ∙ sym c.is_mark.ensures ∙ c.if-is_mark.true in
    subst (λ (s : Sample). one_second < duration (s ∷ samples)) (sym c.sample-sample.ensures) (over_mark t c.args.observation samples c.args.self.now.sums test)

pub invariant_of-self : goal.invariant_of-self
invariant_of-self c =
    let self = c.args.self.now in
    let samples = self.samples.items in
    let back = c.keep_earliest.new.samples.items in
    let within = self.sums_before.within in
    let long : self.settled ≡ length back = sym (ap length c.keep_earliest.ensures ∙ length-earliest samples self.settled within) in
    record {
      sums = mark_sums _ back long refl;
      sums_before = before_same self.settled self.settled_change self.before samples back (omega (arith, long))
          (settled-back self.settled self.settled_change samples back within c.keep_earliest.ensures) self.sums_before;
      settles = record { within = omega arith; none = self.settles.none; all = self.settles.all };
    }

pub returns-then-is_mark-clause-ok : goal.returns-then-is_mark-clause-ok
returns-then-is_mark-clause-ok c =
    let self = c.args.self.now in
    let samples = self.samples.items in
    let back = c.keep_earliest.new.samples.items in
    let long : self.settled ≡ length back = sym (ap length c.keep_earliest.ensures ∙ length-earliest samples self.settled self.sums_before.within) in
    let test : nat_lt one_second (c.args.observation.elapsed + self.latest.taken) ≡ true =
    ap (λ (s : Sample). nat_lt one_second (s.elapsed + self.latest.taken)) (sym c.sample-sample.ensures) ∙ sym c.is_mark.ensures ∙ c.if-is_mark.true in
    mark_is self.latest (record { value = c.args.observation.value; older = self.settled; taken = 0; rate = Some c.rate_over-rate.result }) c.args.observation
    samples back self.sums test refl long (ap Some (c.rate_over-rate.ensures ∙ ap (λ (s : Sample). rate_over (s ∷ samples)) c.sample-sample.ensures))

pub invariant_of-self-else-is_mark : goal.invariant_of-self-else-is_mark
invariant_of-self-else-is_mark c =
    let self = c.args.self.now in
    let samples = self.samples.items in
    let new = c.add_sample.new.samples.items in
    let s = c.sample-sample.result in
    let test : nat_lt one_second (c.args.observation.elapsed + self.latest.taken) ≡ false =
    ap (λ (s : Sample). nat_lt one_second (s.elapsed + self.latest.taken)) (sym c.sample-sample.ensures) ∙ sym c.is_mark.ensures ∙ c.if-is_mark.false in
    let added : new ≡ with_latest self.latest.older (sample_after self.latest c.args.observation) samples =
    c.in_ok-add_sample.ensures.ok ∙ ap (λ (s : Sample). with_latest self.latest.older s samples) c.sample-sample.ensures in
    let long = length-with self.latest.older s samples in
    record {
      sums = subst (λ (t : Totals). Sums t new) (sym c.after-self.ensures)
          (more_sums self.latest c.args.observation samples new self.sums (not_below one_second (c.args.observation.elapsed + self.latest.taken) test) added);
      sums_before = before_same self.settled self.settled_change self.before samples new (omega (arith, long, ap length c.in_ok-add_sample.ensures.ok, self.sums_before.within))
          (ap (λ (xs : List Sample). settled_of self.settled self.settled_change xs) c.in_ok-add_sample.ensures.ok
          ∙ settled-with self.settled self.settled_change self.latest.older s samples self.sums_before.within) self.sums_before;
      settles = subst (λ (t : Totals). Settles t.older self.settled self.before) (sym c.after-self.ensures) self.settles;
    }

pub returns-in_ok-add_sample-clause-ok : goal.returns-in_ok-add_sample-clause-ok
returns-in_ok-add_sample-clause-ok c =
    let self = c.args.self.now in
    let samples = self.samples.items in
    let new = c.add_sample.new.samples.items in
    let test : nat_lt one_second (c.args.observation.elapsed + self.latest.taken) ≡ false =
    ap (λ (s : Sample). nat_lt one_second (s.elapsed + self.latest.taken)) (sym c.sample-sample.ensures) ∙ sym c.is_mark.ensures ∙ c.if-is_mark.false in
    let added : new ≡ with_latest self.latest.older (sample_after self.latest c.args.observation) samples =
    c.in_ok-add_sample.ensures.ok ∙ ap (λ (s : Sample). with_latest self.latest.older s samples) c.sample-sample.ensures in
    ap (λ (t : Totals). summary_at t new) c.after-self.ensures ∙ more_is self.latest c.args.observation samples new self.sums test added

pub returns-in_ok-add_sample-clause-before : goal.returns-in_ok-add_sample-clause-before
returns-in_ok-add_sample-clause-before c =
    let self = c.args.self.now in
    ap (λ (xs : List Sample). option_map (λ t. summary_at t xs) self.before)
    (ap (λ (xs : List Sample). settled_of self.settled self.settled_change xs) c.in_ok-add_sample.ensures.ok
    ∙ settled-with self.settled self.settled_change self.latest.older c.sample-sample.result self.samples.items self.sums_before.within)
