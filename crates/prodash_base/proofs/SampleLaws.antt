-- Samples: those after the last mark, and those that a rate is taken over.
use Rattle.std.proofs.Common.{◌≡◌, ℕ, zero, suc, ◌+◌, ◌*◌, ◌/◌, ◌%◌, ◌-◌, ◌<◌, ◌≤◌, Bool, true, false, cond, List, [], ◌∷◌, ◌++◌, refl, sym, ap, ◌∙◌, arith, ◌||◌}
use Rattle.std.specs.Prelude.{nat_lt, ◌⊎◌}
use Rattle.std.proofs.Common.{inl, inr, take, length, drop}
use Rattle.std.proofs.Math.Nat.{mul-add-div_right, div-add-mod}
use Rattle.std.proofs.lemmas.Bool.Decides.{nat_tests}
use Rattle.prodash_base.specs.Samples.{one_second, duration, after_mark, latest_over, IsShortestOver}
use Rattle.prodash_base.specs.declared.throughput.sample.Sample.{Sample}

pub not_below : (m n : ℕ) → nat_lt m n ≡ false → n ≤ m
not_below m n e = grind (arith, nat_tests)

pub is_below : (m n : ℕ) → nat_lt m n ≡ true → m < n
is_below m n e = grind (arith, nat_tests)

pub drop_past : {A : Type 0} (xs : List A) (n : ℕ) → length xs ≤ n → drop n xs ≡ []
drop_past [] zero h = refl
drop_past [] (suc n) h = refl
drop_past (x ∷ xs) zero h = absurd (omega arith)
drop_past (x ∷ xs) (suc n) h = drop_past xs n (omega arith)

-- what is over a span, of samples that are over it together, is over it
pub latest_over-over : (span : ℕ) (samples : List Sample) → span < duration samples → span < duration (latest_over span samples)
latest_over-over span [] h = absurd (omega arith)
latest_over-over span (s ∷ older) h =
    elim (nat_lt span s.elapsed) as (λ b. nat_lt span s.elapsed ≡ b → span < duration (cond b (s ∷ []) (s ∷ latest_over (span - s.elapsed) older))) [
      | true ↦ λ e. omega (arith, is_below span s.elapsed e)
      | false ↦ λ e.
          let low = not_below span s.elapsed e in
          omega (arith, low, latest_over-over (span - s.elapsed) older (omega (arith, low)))
    ] refl

-- what is left to take, after samples that took `taken` nanoseconds
abbrev pub left_over : ℕ → List Sample → List Sample
left_over taken samples = cond (nat_lt one_second taken) [] (latest_over (one_second - taken) samples)

pub left_over-none : (taken : ℕ) → left_over taken [] ≡ []
left_over-none taken = elim (nat_lt one_second taken) as (λ b. cond {A = List Sample} b [] [] ≡ []) [ true ↦ refl | false ↦ refl ]

pub left_over-done : (taken : ℕ) (samples : List Sample) → one_second < taken → left_over taken samples ≡ []
left_over-done taken samples h =
    elim (nat_lt one_second taken) as (λ b. nat_lt one_second taken ≡ b → cond b [] (latest_over (one_second - taken) samples) ≡ []) [
      | true ↦ λ e. refl
      | false ↦ λ e. absurd (omega (arith, not_below one_second taken e))
    ] refl

-- the latest sample, and what is left to take after it
pub left_over-first : (s : Sample) (older : List Sample) → latest_over one_second (s ∷ older) ≡ s ∷ left_over s.elapsed older
left_over-first s older =
    elim (nat_lt one_second s.elapsed) as (λ b. cond b (s ∷ []) (s ∷ latest_over (one_second - s.elapsed) older) ≡ s ∷ cond b [] (latest_over (one_second - s.elapsed) older)) [
      | true ↦ refl
      | false ↦ refl
    ]

-- a quotient of a product, the quotient and the remainder scaled apart
pub scaled_apart : (a n k : ℕ) → 0 < n → a / n * k + a % n * k / n ≡ a * k / n
scaled_apart a n k h =
    let whole : a * k ≡ (a / n * k) * n + a % n * k =
    ap (λ m. m * k) (sym (div-add-mod a n)) ∙ omega arith in
    sym (ap (λ m. m / n) whole ∙ mul-add-div_right h (a / n * k) (a % n * k))

abbrev pub is_empty : List Sample → Bool
is_empty [] = true
is_empty (s ∷ older) = false

-- the test whether a sample that follows these is a mark
abbrev pub is_mark : Sample → List Sample → Bool
is_mark s older = is_empty older || nat_lt one_second (duration (s ∷ after_mark older))

after_mark-cons : (s : Sample) (older : List Sample) → after_mark (s ∷ older) ≡ cond (is_mark s older) [] (s ∷ after_mark older)
after_mark-cons s [] = refl
after_mark-cons s (t ∷ older) = refl

pub none_left : (taken n : ℕ) (samples : List Sample) → (length samples ≤ n) ⊎ (one_second < taken) → left_over taken (drop n samples) ≡ []
none_left taken n samples (inl past) = ap (left_over taken) (drop_past samples n past) ∙ left_over-none taken
none_left taken n samples (inr done) = left_over-done taken (drop n samples) done

fewer : (span : ℕ) (s : Sample) (part : List Sample) → ((n : ℕ) → n < length part → duration (take n part) ≤ span - s.elapsed) → s.elapsed ≤ span
    → (n : ℕ) → n < length (s ∷ part) → duration (take n (s ∷ part)) ≤ span
fewer span s part h e zero l = omega arith
fewer span s part h e (suc n) l = omega (arith, h n (omega arith), e)

only_none : (span : ℕ) (s : Sample) (n : ℕ) → n < 1 → duration (take n (s ∷ [])) ≤ span
only_none span s zero l = omega arith
only_none span s (suc n) l = absurd (omega arith)

-- the latest samples over a span are the shortest end over it
pub latest_over-shortest : (span : ℕ) (samples : List Sample) → span < duration samples → IsShortestOver span samples (latest_over span samples)
latest_over-shortest span [] h = absurd (omega arith)
latest_over-shortest span (s ∷ older) h =
    elim (nat_lt span s.elapsed) as (λ b. nat_lt span s.elapsed ≡ b → IsShortestOver span (s ∷ older) (cond b (s ∷ []) (s ∷ latest_over (span - s.elapsed) older))) [
      | true ↦ λ e. record { older = older; is_end = refl; over = omega (arith, is_below span s.elapsed e); least = only_none span s }
      | false ↦ λ e.
          let low = not_below span s.elapsed e in
          let rest = latest_over-shortest (span - s.elapsed) older (omega (arith, low)) in
          record { older = rest.older; is_end = ap (λ xs. s ∷ xs) rest.is_end; over = omega (arith, low, rest.over); least = fewer span s _ rest.least low }
    ] refl

-- the samples after the last mark are the latest ones
after_mark-latest : (samples : List Sample) → (rest : List Sample) × (samples ≡ after_mark samples ++ rest)
after_mark-latest [] = ([], refl)
after_mark-latest (s ∷ older) =
    let latest = after_mark-latest older in
    let cut = after_mark-cons s older in
    let parts : (rest : List Sample) × (s ∷ older ≡ cond (is_mark s older) [] (s ∷ after_mark older) ++ rest) =
    elim (is_mark s older) as (λ b. (rest : List Sample) × (s ∷ older ≡ cond b [] (s ∷ after_mark older) ++ rest)) [
      | true ↦ (s ∷ older, refl)
      | false ↦ (latest.0, ap (λ xs. s ∷ xs) latest.1)
    ] in
    (parts.0, parts.1 ∙ ap (λ xs. xs ++ parts.0) (sym cut))

-- what is over a span needs no older samples
pub latest_over-append : (span : ℕ) (samples older : List Sample) → span < duration samples → latest_over span (samples ++ older) ≡ latest_over span samples
latest_over-append span [] older h = absurd (omega arith)
latest_over-append span (s ∷ samples) older h =
    elim (nat_lt span s.elapsed) as (λ b. nat_lt span s.elapsed ≡ b → cond b (s ∷ []) (s ∷ latest_over (span - s.elapsed) (samples ++ older)) ≡ cond b (s ∷ []) (s ∷ latest_over (span - s.elapsed) samples)) [
      | true ↦ λ e. refl
      | false ↦ λ e. ap (λ xs. s ∷ xs) (latest_over-append (span - s.elapsed) samples older (omega (arith, not_below span s.elapsed e)))
    ] refl

-- samples since the last mark that are over a span with one more
pub latest_over-recent : (span : ℕ) (s : Sample) (older : List Sample) → span < duration (s ∷ after_mark older) → latest_over span (s ∷ older) ≡ latest_over span (s ∷ after_mark older)
latest_over-recent span s older h =
    let latest = after_mark-latest older in
    ap (λ xs. latest_over span (s ∷ xs)) latest.1 ∙ latest_over-append span (s ∷ after_mark older) latest.0 h

short_by : (is_first is_long : Bool) (s : Sample) (recent : List Sample) → is_long ≡ nat_lt one_second (duration (s ∷ recent)) → duration (cond (is_first || is_long) [] (s ∷ recent)) ≤ one_second
short_by true is_long s recent e = omega arith
short_by false true s recent e = omega arith
short_by false false s recent e = not_below one_second (duration (s ∷ recent)) (sym e)

-- the samples after the last mark take no more than a second
pub after_mark-short : (samples : List Sample) → duration (after_mark samples) ≤ one_second
after_mark-short [] = omega arith
after_mark-short (s ∷ older) = rw (after_mark-cons s older) (short_by (is_empty older) (nat_lt one_second (duration (s ∷ after_mark older))) s (after_mark older) refl)
