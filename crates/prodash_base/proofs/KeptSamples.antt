-- The samples that are kept, after one more.
use Rattle.std.proofs.Common.{◌≡◌, ℕ, suc, ◌+◌, ◌-◌, ◌<◌, ◌≤◌, Bool, true, false, cond, List, [], ◌∷◌, ◌++◌, Option, Some, refl, sym, ap, ◌∙◌, arith, length, take, drop, take_all, take-append-drop, length-drop, subst}
use Rattle.std.specs.Prelude.{nat_lt, ◌⊎◌}
use Rattle.std.proofs.Common.{inl, inr}
use Rattle.prodash_base.specs.Samples.{one_second, duration, rate_over, per_second}
use Rattle.prodash_base.specs.Held.{Summary, with_sample, add_change}
use Rattle.prodash_base.specs.plumbing.Summaries.{next_summary}
use Rattle.prodash_base.specs.declared.throughput.sample.Observation.{Observation}
use Rattle.prodash_base.specs.declared.throughput.sample.Sample.{Sample}
use Rattle.prodash_base.specs.declared.throughput.totals.Totals.{Totals}
use Rattle.prodash_base.specs.plumbing.KeptSamples.{recent_of, Sums, SumsBefore, summary_at, sample_after, totals_after, with_latest, earliest, latest_change, with_change, settled_of}
use Rattle.prodash_base.proofs.SampleLaws.{is_below, not_below, latest_over-append}
use Rattle.prodash_base.proofs.JoinedSamples.{duration-with}

abbrev keep : ℕ → List Sample → Option ℕ → Summary
keep value recent rate = record { value = value; recent = recent; rate = rate }

duration-append : (xs ys : List Sample) → duration (xs ++ ys) ≡ duration xs + duration ys
duration-append [] ys = omega arith
duration-append (x ∷ xs) ys = omega (arith, duration-append xs ys)

-- older samples take time too
duration-take : (n : ℕ) (samples : List Sample) → duration (take n samples) ≤ duration samples
duration-take n samples = omega (arith, ap duration (take-append-drop n samples), duration-append (take n samples) (drop n samples))

-- after a mark no samples are recent
recent-none : (samples : List Sample) → take (length samples - length samples) samples ≡ []
recent-none samples = let none : length samples - length samples ≡ 0 = omega arith in ap (λ k. take k samples) none

-- the rate at a mark needs no older samples
rate-recent : (s : Sample) (older : List Sample) (n : ℕ) → one_second < duration (s ∷ take n older) → rate_over (s ∷ older) ≡ rate_over (s ∷ take n older)
rate-recent s older n h =
    ap (λ xs. rate_over (s ∷ xs)) (sym (take-append-drop n older))
    ∙ ap per_second (latest_over-append one_second (s ∷ take n older) (drop n older) h)

-- is one more observation a mark?
test_is : (t : Totals) (o : Observation) (older : List Sample) → Sums t older → nat_lt one_second (duration (sample_after t o ∷ recent_of t older)) ≡ nat_lt one_second (o.elapsed + t.taken)
test_is t o older h = ap (λ n. nat_lt one_second (o.elapsed + n)) (sym h.taken)

abbrev next_by : Totals → Observation → List Sample → Bool → Summary
next_by t o older b =
    cond b (keep o.value [] (Some (rate_over (sample_after t o ∷ recent_of t older)))) (keep o.value (with_sample (sample_after t o) (recent_of t older)) t.rate)

next_is : (t : Totals) (o : Observation) (older : List Sample) (b : Bool) → Sums t older → nat_lt one_second (o.elapsed + t.taken) ≡ b → next_summary (summary_at t older) o ≡ next_by t o older b
next_is t o older b h e = ap (next_by t o older) (test_is t o older h ∙ e)

pub over_mark : (t : Totals) (o : Observation) (older : List Sample) → Sums t older → nat_lt one_second (o.elapsed + t.taken) ≡ true → one_second < duration (sample_after t o ∷ older)
over_mark t o older h e = let long = duration-take (length older - t.older) older in omega (arith, is_below one_second (o.elapsed + t.taken) e, h.taken, long)

-- after a mark
pub mark_is : (t u : Totals) (o : Observation) (samples back : List Sample) → Sums t samples → nat_lt one_second (o.elapsed + t.taken) ≡ true
    → u.value ≡ o.value → u.older ≡ length back → u.rate ≡ Some (rate_over (sample_after t o ∷ samples))
    → summary_at u back ≡ next_summary (summary_at t samples) o
mark_is t u o samples back h m value all rate =
    let recent : recent_of u back ≡ [] = ap (λ n. take (length back - n) back) all ∙ recent-none back in
    let over : one_second < duration (sample_after t o ∷ recent_of t samples) = omega (arith, is_below one_second (o.elapsed + t.taken) m, h.taken) in
    let rated : u.rate ≡ Some (rate_over (sample_after t o ∷ recent_of t samples)) =
    rate ∙ ap Some (rate-recent (sample_after t o) samples (length samples - t.older) over) in
    (λ i. keep (value i) (recent i) (rated i)) ∙ sym (next_is t o samples true h m)

pub mark_sums : (u : Totals) (samples : List Sample) → u.older ≡ length samples → u.taken ≡ 0 → Sums u samples
mark_sums u samples all none = record {
  older = omega (arith, all);
  taken = none ∙ ap duration (sym (recent-none samples) ∙ ap (λ n. take (length samples - n) samples) (sym all));
  short = omega (arith, none);
}

-- after one more that is no mark
recent-more : (s : Sample) (older : List Sample) (n : ℕ) → n ≤ length older → take (length (s ∷ older) - n) (s ∷ older) ≡ s ∷ take (length older - n) older
recent-more s older n h = let on : length (s ∷ older) - n ≡ suc (length older - n) = omega arith in ap (λ k. take k (s ∷ older)) on

abbrev recent_in : ℕ → List Sample → List Sample
recent_in older samples = take (length samples - older) samples

recent-add : (rise older : ℕ) (samples : List Sample) → older < length samples → recent_in older (add_change rise samples) ≡ add_change rise (recent_in older samples)
recent-add rise older [] l = absurd (omega arith)
recent-add rise older (s ∷ samples) l = recent-more _ samples older (omega arith) ∙ sym (ap (add_change rise) (recent-more s samples older (omega arith)))

recent-past : (rise older : ℕ) (samples : List Sample) → length samples ≤ older → recent_in older samples ≡ add_change rise (recent_in older samples)
recent-past rise older samples l =
    let none : length samples - older ≡ 0 = omega arith in
    ap (λ k. take k samples) none ∙ sym (ap (λ k. add_change rise (take k samples)) none)

recent-joined : (rise older : ℕ) (samples : List Sample)
    → recent_in older (cond (nat_lt older (length samples)) (add_change rise samples) samples) ≡ add_change rise (recent_in older samples)
recent-joined rise older samples =
    elim (nat_lt older (length samples)) as (λ b. nat_lt older (length samples) ≡ b → recent_in older (cond b (add_change rise samples) samples) ≡ add_change rise (recent_in older samples)) [
      | true ↦ λ e. recent-add rise older samples (is_below older (length samples) e)
      | false ↦ λ e. recent-past rise older samples (not_below older (length samples) e)
    ] refl

pub recent-with : (older : ℕ) (s : Sample) (samples : List Sample) → older ≤ length samples → recent_in older (with_latest older s samples) ≡ with_sample s (recent_in older samples)
recent-with older s samples l =
    elim (nat_lt 0 s.elapsed) as (λ b. recent_in older (cond b (s ∷ samples) (cond (nat_lt older (length samples)) (add_change s.change samples) samples)) ≡ cond b (s ∷ recent_in older samples) (add_change s.change (recent_in older samples))) [
      | true ↦ recent-more s samples older l
      | false ↦ recent-joined s.change older samples
    ]

length-add : (rise : ℕ) (samples : List Sample) → length (add_change rise samples) ≡ length samples
length-add rise [] = refl
length-add rise (s ∷ older) = refl

pub length-with : (older : ℕ) (s : Sample) (samples : List Sample) → length samples ≤ length (with_latest older s samples)
length-with older s samples =
    elim (nat_lt 0 s.elapsed) as (λ b. length samples ≤ length (cond b (s ∷ samples) (cond (nat_lt older (length samples)) (add_change s.change samples) samples))) [
      | true ↦ omega arith
      | false ↦ elim (nat_lt older (length samples)) as (λ b. length samples ≤ length (cond b (add_change s.change samples) samples)) [
        | true ↦ omega (arith, length-add s.change samples)
        | false ↦ omega arith
      ]
    ]

pub more_is : (t : Totals) (o : Observation) (samples new : List Sample) → Sums t samples → nat_lt one_second (o.elapsed + t.taken) ≡ false
    → new ≡ with_latest t.older (sample_after t o) samples → summary_at (totals_after t o) new ≡ next_summary (summary_at t samples) o
more_is t o samples new h m e =
    ap (summary_at (totals_after t o)) e
    ∙ ap (λ recent. keep o.value recent t.rate) (recent-with t.older (sample_after t o) samples h.older)
    ∙ sym (next_is t o samples false h m)

pub more_sums : (t : Totals) (o : Observation) (samples new : List Sample) → Sums t samples → o.elapsed + t.taken ≤ one_second
    → new ≡ with_latest t.older (sample_after t o) samples → Sums (totals_after t o) new
more_sums t o samples new h m e = subst (Sums (totals_after t o)) (sym e) (record {
  older = omega (arith, h.older, length-with t.older (sample_after t o) samples);
  taken = omega (arith, h.taken, ap duration (recent-with t.older (sample_after t o) samples h.older), duration-with (sample_after t o) (recent_of t samples));
  short = m;
})

-- of the earliest samples there are as many, and one more that is later changes none
earliest-more : (s : Sample) (older : List Sample) (n : ℕ) → n ≤ length older → earliest n (s ∷ older) ≡ earliest n older
earliest-more s older n h = let on : length (s ∷ older) - n ≡ suc (length older - n) = omega arith in ap (λ k. drop k (s ∷ older)) on

earliest-all : (samples : List Sample) (n : ℕ) → length samples ≤ n → earliest n samples ≡ samples
earliest-all samples n h = let none : length samples - n ≡ 0 = omega arith in ap (λ k. drop k samples) none

pub recent-all : (samples : List Sample) → take (length samples - 0) samples ≡ samples
recent-all samples = take_all (length samples - 0) samples (omega arith)

pub length-earliest : (samples : List Sample) (n : ℕ) → n ≤ length samples → length (earliest n samples) ≡ n
length-earliest samples n h = omega (arith, length-drop (length samples - n) samples)

earliest-twice : (samples : List Sample) (n : ℕ) → n ≤ length samples → earliest n (earliest n samples) ≡ earliest n samples
earliest-twice samples n h = earliest-all (earliest n samples) n (omega (arith, length-earliest samples n h))

-- the change of the latest settled sample is known, whatever is added to it
settled-first : (n change : ℕ) (s t : Sample) (older : List Sample) → t.elapsed ≡ s.elapsed → (n ≤ length older) ⊎ (length older < n)
    → settled_of n change (t ∷ older) ≡ settled_of n change (s ∷ older)
settled-first n change s t older e (inl some) = ap (with_change change) (earliest-more t older n some ∙ sym (earliest-more s older n some))
settled-first n change s t older e (inr all) =
    ap (with_change change) (earliest-all (t ∷ older) n (omega arith))
    ∙ ap (λ k. record { elapsed = k; change = change } ∷ older) e
    ∙ sym (ap (with_change change) (earliest-all (s ∷ older) n (omega arith)))

either : (m n : ℕ) → (m ≤ n) ⊎ (n < m)
either m n = elim (nat_lt n m) as (λ b. nat_lt n m ≡ b → (m ≤ n) ⊎ (n < m)) [
  | true ↦ λ e. inr (is_below n m e)
  | false ↦ λ e. inl (not_below n m e)
] refl

settled-add : (n change rise : ℕ) (samples : List Sample) → settled_of n change (add_change rise samples) ≡ settled_of n change samples
settled-add n change rise [] = refl
settled-add n change rise (s ∷ older) = settled-first n change s _ older refl (either n (length older))

pub settled-with : (n change older : ℕ) (s : Sample) (samples : List Sample) → n ≤ length samples → settled_of n change (with_latest older s samples) ≡ settled_of n change samples
settled-with n change older s samples h =
    elim (nat_lt 0 s.elapsed) as (λ b. settled_of n change (cond b (s ∷ samples) (cond (nat_lt older (length samples)) (add_change s.change samples) samples)) ≡ settled_of n change samples) [
      | true ↦ ap (with_change change) (earliest-more s samples n h)
      | false ↦ elim (nat_lt older (length samples)) as (λ b. settled_of n change (cond b (add_change s.change samples) samples) ≡ settled_of n change samples) [
        | true ↦ settled-add n change s.change samples
        | false ↦ refl
      ]
    ]

pub settled-back : (n change : ℕ) (samples back : List Sample) → n ≤ length samples → back ≡ earliest n samples → settled_of n change back ≡ settled_of n change samples
settled-back n change samples back h e = ap (settled_of n change) e ∙ ap (with_change change) (earliest-twice samples n h)

length-change : (change : ℕ) (samples : List Sample) → length (with_change change samples) ≡ length samples
length-change change [] = refl
length-change change (s ∷ older) = refl

change-twice : (change : ℕ) (samples : List Sample) → with_change change (with_change change samples) ≡ with_change change samples
change-twice change [] = refl
change-twice change (s ∷ older) = refl

pub length-settled : (n change : ℕ) (samples : List Sample) → n ≤ length samples → length (settled_of n change samples) ≡ n
length-settled n change samples h = length-change change (earliest n samples) ∙ length-earliest samples n h

pub settled-twice : (n change : ℕ) (samples : List Sample) → n ≤ length samples → settled_of n change (settled_of n change samples) ≡ settled_of n change samples
settled-twice n change samples h =
    ap (with_change change) (earliest-all (settled_of n change samples) n (omega (arith, length-settled n change samples h)))
    ∙ change-twice change (earliest n samples)

-- all samples, settled
change-same : (samples : List Sample) → with_change (latest_change samples) samples ≡ samples
change-same [] = refl
change-same (s ∷ older) = refl

pub settled-all : (samples : List Sample) → settled_of (length samples) (latest_change samples) samples ≡ samples
settled-all samples = ap (with_change (latest_change samples)) (earliest-all samples (length samples) (omega arith)) ∙ change-same samples

-- what was kept before, when the samples are others with the same settled ones
pub before_same : (count change : ℕ) (before : Option Totals) (samples new : List Sample) → count ≤ length new → settled_of count change new ≡ settled_of count change samples
    → SumsBefore count change before samples → SumsBefore count change before new
before_same count change before samples new within e h = record {
  within = within;
  sums = λ t is. subst (λ xs. Sums t xs) (sym e) (h.sums t is);
}
