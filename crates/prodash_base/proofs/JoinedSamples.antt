-- Samples that take no time, each added to the one before it: durations and rates stay.
use Rattle.std.proofs.Common.{◌≡◌, ℕ, zero, suc, ◌+◌, ◌*◌, ◌/◌, ◌-◌, ◌^◌, ◌<◌, ◌≤◌, true, false, cond, List, [], ◌∷◌, refl, sym, ap, ◌∙◌, arith}
use Rattle.std.specs.Prelude.{nat_lt, min, ◌⊎◌}
use Rattle.std.proofs.Common.{inl, inr}
use Rattle.std.specs.List.{All}
use Rattle.std.proofs.lemmas.Nat.{le-div}
use Rattle.prodash_base.specs.Samples.{one_second, duration, change, samples_of, after_mark, latest_over, per_second, rate_over}
use Rattle.prodash_base.specs.Held.{add_change, with_sample, joined, AreFew}
use Rattle.prodash_base.specs.declared.throughput.sample.Observation.{Observation}
use Rattle.prodash_base.specs.declared.throughput.sample.Sample.{Sample}
use Rattle.prodash_base.proofs.SampleLaws.{is_below, not_below, latest_over-over, after_mark-short, left_over, left_over-first}

pub duration-add : (rise : ℕ) (samples : List Sample) → duration (add_change rise samples) ≡ duration samples
duration-add rise [] = refl
duration-add rise (s ∷ older) = refl

pub duration-with : (s : Sample) (older : List Sample) → duration (with_sample s older) ≡ s.elapsed + duration older
duration-with s older =
    elim (nat_lt 0 s.elapsed) as (λ b. nat_lt 0 s.elapsed ≡ b → duration (cond b (s ∷ older) (add_change s.change older)) ≡ s.elapsed + duration older) [
      | true ↦ λ e. refl
      | false ↦ λ e. omega (arith, duration-add s.change older, not_below 0 s.elapsed e)
    ] refl

pub duration-joined : (samples : List Sample) → duration (joined samples) ≡ duration samples
duration-joined [] = refl
duration-joined (s ∷ older) = duration-with s (joined older) ∙ ap (λ n. s.elapsed + n) (duration-joined older)

-- the most that a change is counted for
abbrev pub capped : ℕ → ℕ
capped n = min n (2 ^ 128 - 1)

-- samples that take as long, with the same change as far as it is counted
pub record AreAlike (xs ys : List Sample) : Type 0 where
  pub long : duration xs ≡ duration ys
  pub rise : capped (change xs) ≡ capped (change ys)

alike_self : (xs : List Sample) → AreAlike xs xs
alike_self xs = record { long = refl; rise = refl }

alike_more : (s : Sample) (xs ys : List Sample) → AreAlike xs ys → AreAlike (s ∷ xs) (s ∷ ys)
alike_more s xs ys h = record { long = ap (λ n. s.elapsed + n) h.long; rise = omega (arith, h.rise) }

-- a rise that is added to the latest sample
alike_added : (span rise : ℕ) (samples : List Sample) → span < duration samples
    → (duration (latest_over span (add_change rise samples)) ≡ duration (latest_over span samples))
    × (capped (change (latest_over span (add_change rise samples))) ≡ capped (rise + change (latest_over span samples)))
alike_added span rise [] h = absurd (omega arith)
alike_added span rise (s ∷ older) h =
    let t : Sample = record s { change = capped (s.change + rise) } in
    elim (nat_lt span s.elapsed) as (λ b. (duration (cond b (t ∷ []) (t ∷ latest_over (span - s.elapsed) older)) ≡ duration (cond b (s ∷ []) (s ∷ latest_over (span - s.elapsed) older)))
    × (capped (change (cond b (t ∷ []) (t ∷ latest_over (span - s.elapsed) older))) ≡ capped (rise + change (cond b (s ∷ []) (s ∷ latest_over (span - s.elapsed) older))))) [
      | true ↦ (refl, omega arith)
      | false ↦ (refl, omega arith)
    ]

abbrev FirstAlike : ℕ → Sample → List Sample → Type 0
FirstAlike span s older = span < duration (s ∷ older) → AreAlike (latest_over span (s ∷ joined older)) (latest_over span (s ∷ older))

alike_first : (span : ℕ) (s : Sample) (older : List Sample) → (s.elapsed ≤ span → span - s.elapsed < duration older → AreAlike (latest_over (span - s.elapsed) (joined older)) (latest_over (span - s.elapsed) older)) → FirstAlike span s older
alike_first span s older more h =
    elim (nat_lt span s.elapsed) as (λ b. nat_lt span s.elapsed ≡ b → AreAlike (cond b (s ∷ []) (s ∷ latest_over (span - s.elapsed) (joined older))) (cond b (s ∷ []) (s ∷ latest_over (span - s.elapsed) older))) [
      | true ↦ λ e. alike_self (s ∷ [])
      | false ↦ λ e. let low = not_below span s.elapsed e in alike_more s _ _ (more low (omega (arith, low)))
    ] refl

-- no time passes in a sample, so that it is counted if the one before it is
alike_none : (span : ℕ) (s : Sample) (older : List Sample) → s.elapsed ≡ 0 → span < duration older → AreAlike (latest_over span (joined older)) (latest_over span older)
    → AreAlike (latest_over span (add_change s.change (joined older))) (latest_over span (s ∷ older))
alike_none span s older e h more =
    let added = alike_added span s.change (joined older) (omega (arith, duration-joined older)) in
    elim (nat_lt span s.elapsed) as (λ b. nat_lt span s.elapsed ≡ b → AreAlike (latest_over span (add_change s.change (joined older))) (cond b (s ∷ []) (s ∷ latest_over (span - s.elapsed) older))) [
      | true ↦ λ t. absurd (omega (arith, is_below span s.elapsed t))
      | false ↦ λ t.
          let same : span - s.elapsed ≡ span = omega arith in
          record {
            long = omega (arith, added.0, more.long, ap (λ n. duration (latest_over n older)) same);
            rise = omega (arith, added.1, more.rise, ap (λ n. change (latest_over n older)) same);
          }
    ] refl

-- the latest samples over a span
pub latest_over-joined : (span : ℕ) (samples : List Sample) → span < duration samples → AreAlike (latest_over span (joined samples)) (latest_over span samples)
latest_over-joined span [] h = absurd (omega arith)
latest_over-joined span (s ∷ older) h =
    elim (nat_lt 0 s.elapsed) as (λ b. nat_lt 0 s.elapsed ≡ b → AreAlike (latest_over span (cond b (s ∷ joined older) (add_change s.change (joined older)))) (latest_over span (s ∷ older))) [
      | true ↦ λ e. alike_first span s older (λ low more. latest_over-joined (span - s.elapsed) older more) h
      | false ↦ λ e.
          let none : s.elapsed ≡ 0 = omega (arith, not_below 0 s.elapsed e) in
          let over : span < duration older = omega (arith, none) in
          alike_none span s older none over (latest_over-joined span older over)
    ] refl

-- what is over a span takes no longer than all
latest_over-within : (span : ℕ) (samples : List Sample) → duration (latest_over span samples) ≤ duration samples
latest_over-within span [] = omega arith
latest_over-within span (s ∷ older) =
    elim (nat_lt span s.elapsed) as (λ b. duration (cond b (s ∷ []) (s ∷ latest_over (span - s.elapsed) older)) ≤ duration (s ∷ older)) [
      | true ↦ omega arith
      | false ↦ omega (arith, latest_over-within (span - s.elapsed) older)
    ]

rate_by : (c d : ℕ) → 0 < d → d < 36893488147419103232 → (c ≤ 2 ^ 128 - 1) ⊎ (2 ^ 128 - 1 ≤ c) → min (c * one_second / d) (2 ^ 64 - 1) ≡ min (capped c * one_second / d) (2 ^ 64 - 1)
rate_by c d h k (inl low) = let same : capped c ≡ c = omega arith in ap (λ n. min (n * one_second / d) (2 ^ 64 - 1)) (sym same)
rate_by c d h k (inr high) =
    let all : 18446744073709551615 ≤ c * one_second / d = le-div 18446744073709551615 (c * one_second) d h (omega arith) in
    let most : capped c ≡ 2 ^ 128 - 1 = omega arith in
    let some : 18446744073709551615 ≤ capped c * one_second / d = le-div 18446744073709551615 (capped c * one_second) d h (omega (arith, most)) in
    omega (arith, all, some)

either : (c : ℕ) → (c ≤ 2 ^ 128 - 1) ⊎ (2 ^ 128 - 1 ≤ c)
either c = elim (nat_lt c (2 ^ 128 - 1)) as (λ b. nat_lt c (2 ^ 128 - 1) ≡ b → (c ≤ 2 ^ 128 - 1) ⊎ (2 ^ 128 - 1 ≤ c)) [
  | true ↦ λ e. inl (omega (arith, is_below c (2 ^ 128 - 1) e))
  | false ↦ λ e. inr (not_below c (2 ^ 128 - 1) e)
] refl

-- no more of a change than is counted is needed for a rate
pub rate-capped : (c d : ℕ) → 0 < d → d < 36893488147419103232 → min (c * one_second / d) (2 ^ 64 - 1) ≡ min (capped c * one_second / d) (2 ^ 64 - 1)
rate-capped c d h k = rate_by c d h k (either c)

pub rate-alike : (xs ys : List Sample) → AreAlike xs ys → 0 < duration ys → duration ys < 36893488147419103232 → per_second xs ≡ per_second ys
rate-alike xs ys h some short =
    ap (λ d. min (change xs * one_second / d) (2 ^ 64 - 1)) h.long
    ∙ rate-capped (change xs) (duration ys) some short
    ∙ ap (λ c. min (c * one_second / duration ys) (2 ^ 64 - 1)) h.rise
    ∙ sym (rate-capped (change ys) (duration ys) some short)

-- what is taken first
pub first-long : (n : ℕ) (s : Sample) (older : List Sample) → n ≡ s.elapsed → n + duration (left_over n older) ≡ duration (latest_over one_second (s ∷ older))
first-long n s older e = ap (λ k. k + duration (left_over k older)) e ∙ sym (ap duration (left_over-first s older))

pub first-rise : (n : ℕ) (s : Sample) (older : List Sample) → n ≡ s.elapsed → capped (s.change + change (left_over n older)) ≡ capped (change (latest_over one_second (s ∷ older)))
first-rise n s older e = ap (λ k. capped (s.change + change (left_over k older))) e ∙ sym (ap (λ xs. capped (change xs)) (left_over-first s older))

-- the rate of samples whose time and change were added up
pub rate-counted : (c d : ℕ) (samples : List Sample) → d ≡ duration samples → capped c ≡ capped (change samples) → 0 < d → d < 36893488147419103232
    → min (c * one_second / d) (2 ^ 64 - 1) ≡ per_second samples
rate-counted c d samples long rise some short =
    rate-capped c d some short
    ∙ ap (λ n. min (n * one_second / d) (2 ^ 64 - 1)) rise
    ∙ sym (rate-capped (change samples) d some short)
    ∙ ap (λ n. min (change samples * one_second / n) (2 ^ 64 - 1)) long

-- the rate at a mark
pub rate-joined : (s : Sample) (older : List Sample) → s.elapsed < 18446744073709551616 → duration older ≤ one_second → one_second < duration (s ∷ older) → rate_over (s ∷ joined older) ≡ rate_over (s ∷ older)
rate-joined s older fits short over =
    rate-alike _ _ (alike_first one_second s older (λ low more. latest_over-joined (one_second - s.elapsed) older more) over)
    (omega (arith, latest_over-over one_second (s ∷ older) over))
    (omega (arith, latest_over-within one_second (s ∷ older)))

first_each : (s : Sample) (older : List Sample) → 0 < s.elapsed → All (λ (s : Sample). 0 < s.elapsed) older → All (λ (s : Sample). 0 < s.elapsed) (s ∷ older)
first_each s older e h zero d l = e
first_each s older e h (suc k) d l = h k d (omega arith)

added-each : (rise : ℕ) (samples : List Sample) → All (λ (s : Sample). 0 < s.elapsed) samples → All (λ (s : Sample). 0 < s.elapsed) (add_change rise samples)
added-each rise [] h = h
added-each rise (s ∷ older) h = first_each _ older (h 0 s (omega arith)) (λ k d l. h (suc k) d (omega arith))

-- each takes time
joined-each : (samples : List Sample) → All (λ (s : Sample). 0 < s.elapsed) (joined samples)
joined-each [] = λ k d l. absurd (omega arith)
joined-each (s ∷ older) =
    elim (nat_lt 0 s.elapsed) as (λ b. nat_lt 0 s.elapsed ≡ b → All (λ (s : Sample). 0 < s.elapsed) (cond b (s ∷ joined older) (add_change s.change (joined older)))) [
      | true ↦ λ e. first_each s (joined older) (is_below 0 s.elapsed e) (joined-each older)
      | false ↦ λ e. added-each s.change (joined older) (joined-each older)
    ] refl

-- the samples after the last mark are few
pub few-recent : (all : List Observation) → AreFew (joined (after_mark (samples_of all)))
few-recent all = record {
  short = omega (arith, duration-joined (after_mark (samples_of all)), after_mark-short (samples_of all));
  each = joined-each (after_mark (samples_of all));
}
