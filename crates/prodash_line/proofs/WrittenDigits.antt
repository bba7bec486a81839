-- The digits of numbers that are written in place.
use Rattle.std.proofs.Common.{◌≡◌, ℕ, ◌+◌, ◌/◌, ◌%◌, ◌^◌, ◌<◌, ◌≤◌, [], ◌∷◌, ◌++◌, Option, Some, None, true, length, codes, refl, sym, ap, ◌∙◌, arith, append_assoc, length-append}
use Rattle.std.specs.Fmt.{decimal}
use Rattle.std.proofs.lemmas.Fmt.{decimal_digit, decimal_step}
use Rattle.prodash_line.specs.ProgressRows.{fraction_of}
use Rattle.prodash_line.specs.plumbing.RowWriting.{two_digits}
use Rattle.prodash_line.specs.plumbing.Writing.{is_printable}
use Rattle.prodash_line.proofs.Columns.{printable-append, printable-decimal}

-- of a number of two digits
pub decimal_two : (n : ℕ) → 10 ≤ n → n < 100 → two_digits n ≡ decimal n
decimal_two n low high = ap (λ t. t ++ (48 + n % 10) ∷ []) (sym (decimal_digit (n / 10) (omega arith))) ∙ sym (decimal_step n low (omega arith))

-- of a number with more than two, the last two apart
pub decimal_pair : (n : ℕ) → 100 ≤ n → n < 2 ^ 64 → decimal (n / 100) ++ two_digits (n % 100) ≡ decimal n
decimal_pair n low high =
    let tens : n / 100 ≡ n / 10 / 10 = omega arith in
    let ten : n % 100 / 10 ≡ n / 10 % 10 = omega arith in
    let one : n % 100 % 10 ≡ n % 10 = omega arith in
    ap (λ k. decimal k ++ two_digits (n % 100)) tens
    ∙ ap (λ k. decimal (n / 10 / 10) ++ ((48 + k) ∷ (48 + n % 100 % 10) ∷ [])) ten
    ∙ ap (λ k. decimal (n / 10 / 10) ++ ((48 + n / 10 % 10) ∷ (48 + k) ∷ [])) one
    ∙ sym (append_assoc (decimal (n / 10 / 10)) ((48 + n / 10 % 10) ∷ []) ((48 + n % 10) ∷ []))
    ∙ ap (λ t. t ++ (48 + n % 10) ∷ []) (sym (decimal_step (n / 10) (omega arith) (omega arith)))
    ∙ sym (decimal_step n (omega arith) high)

-- how many there are
pub count_one : (n : ℕ) → n < 10 → length (decimal n) ≡ 1
count_one n h = ap length (decimal_digit n h)

pub count_more : (n : ℕ) → 10 ≤ n → n < 2 ^ 64 → length (decimal n) ≡ length (decimal (n / 10)) + 1
count_more n low high = ap length (decimal_step n low high) ∙ length-append (decimal (n / 10)) ((48 + n % 10) ∷ [])

pub count_two : (n : ℕ) → 10 ≤ n → n < 100 → length (decimal n) ≡ 2
count_two n low high = omega (arith, count_more n low (omega arith), count_one (n / 10) (omega arith))

pub count_three : (n : ℕ) → 100 ≤ n → n < 1000 → length (decimal n) ≡ 3
count_three n low high = omega (arith, count_more n (omega arith) (omega arith), count_two (n / 10) (omega arith) (omega arith))

pub count_four : (n : ℕ) → 1000 ≤ n → n < 10000 → length (decimal n) ≡ 4
count_four n low high = omega (arith, count_more n (omega arith) (omega arith), count_three (n / 10) (omega arith) (omega arith))

pub count_pair : (n : ℕ) → 100 ≤ n → n < 2 ^ 64 → length (decimal n) ≡ length (decimal (n / 100)) + 2
count_pair n low high = ap length (sym (decimal_pair n low high)) ∙ length-append (decimal (n / 100)) (two_digits (n % 100))

-- a fraction is printable
pub printable_fraction : (step : ℕ) (bound : Option ℕ) → is_printable (fraction_of step bound) ≡ true
printable_fraction step None = printable-decimal step
printable_fraction step (Some bound) =
    printable-append (decimal step) (codes "/" ++ decimal bound) (printable-decimal step) (printable-append (codes "/") (decimal bound) refl (printable-decimal bound))
