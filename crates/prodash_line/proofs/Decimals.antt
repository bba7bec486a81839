-- Numbers as their digits.
use Rattle.std.proofs.Common.{◌≡◌, ℕ, zero, suc, ◌^◌, ◌<◌, ◌≤◌, List, length, get_or, Result, Ok, Err, sym, ap, subst, ◌∙◌, arith, Some, None}
use Rattle.std.specs.Fmt.{decimal}
use Rattle.std.specs.Option.{MatchOption}
use Rattle.std.specs.Result.{OkIff, MatchResult, result_ok}
use Rattle.std.specs.Str.{IsUtf8}
use Rattle.std.specs.Str.Parse.{AllDigits, digits_value, ParsesUnsigned}
use Rattle.std.proofs.lemmas.Fmt.{decimal-digits_value, first_decimal, decimal_digit, parse-decimal, IsAscii-decimal, decimal_nonempty}
use Rattle.std.proofs.lemmas.Str.Parse.{IsNumeralModel, numerals_by_value, tells_digits, parse_plain}
use Rattle.std.proofs.lemmas.Str.{IsUtf8-from_ascii}

-- digits by their value
own : IsNumeralModel (AllDigits 10) (digits_value 10)
own = numerals_by_value (AllDigits 10) tells_digits

-- a number whose first digit isn't 0 isn't 0
positive : (bs : List ℕ) (n : ℕ) → decimal n ≡ bs → 48 < get_or bs 0 0 → 0 < n
positive bs zero e h = absurd (omega (arith, ap (λ (t : List ℕ). get_or t 0 0) (sym e ∙ e), ap (λ (t : List ℕ). get_or t 0 0) (sym (decimal_digit 0 (omega arith)) ∙ e)))
positive bs (suc n) e h = omega arith

-- what `parse` reads with a first digit that isn't 0 is written so
pub decimal_parsed : (E : Type 0) (bs : List ℕ) (n : ℕ) → ParsesUnsigned {E = E} 16 10 bs (Ok n) → 48 < get_or bs 0 0 → (0 < n) × (decimal n ≡ bs)
decimal_parsed E bs n parsed first =
    let plain : OkIff {E = E} (Ok n) (AllDigits 10 bs × (0 < length bs) × (digits_value 10 bs < 2 ^ 16)) (digits_value 10 bs) = parse_plain own {E = E} 16 bs (Ok n) parsed (λ e. omega arith) in
    let text : decimal (digits_value 10 bs) ≡ bs = decimal-digits_value own bs plain.0.0 plain.0.1 (λ e. absurd (omega arith)) (omega (arith, plain.0.2)) in
    let is : decimal n ≡ bs = ap decimal plain.1 ∙ text in
    (positive bs n is first, is)

-- an error is no number
err_not_ok : (E : Type 0) (error : E) (n : ℕ) → let r : Result ℕ E = Err error in r ≡ Ok n → ⊥
err_not_ok E error n e = cc

-- and no number is, if `parse` reads none
pub none_parsed : (E : Type 0) (bs : List ℕ) (error : E) → ParsesUnsigned {E = E} 16 10 bs (Err error) → (n : ℕ) → n < 2 ^ 16 → decimal n ≡ bs → ⊥
none_parsed E bs error parsed n small e = err_not_ok E error n (parse-decimal {E = E} 16 n bs (Err error) small (omega arith) (sym e) parsed)

-- no bytes are no number
pub none_empty : (bs : List ℕ) (n : ℕ) → n < 2 ^ 16 → decimal n ≡ bs → length bs ≡ 0 → ⊥
none_empty bs n small e h = omega (arith, decimal_nonempty n (omega arith), ap length e)

-- a number that isn't 0 doesn't begin with a 0
pub none_zero : (bs : List ℕ) (n : ℕ) → 0 < n → n < 2 ^ 16 → decimal n ≡ bs → get_or bs 0 0 ≤ 48 → ⊥
none_zero bs n positive small e h = omega (arith, first_decimal n positive (omega arith), ap (λ (t : List ℕ). get_or t 0 0) e)

-- bytes that are no text are no number
pub none_text : (bs : List ℕ) (n : ℕ) → n < 2 ^ 16 → decimal n ≡ bs → (IsUtf8 bs → ⊥) → ⊥
none_text bs n small e h = h (subst IsUtf8 e (IsUtf8-from_ascii (decimal n) (IsAscii-decimal n (omega arith))))

-- a result by what `ok` makes of it
pub ok_case : {T E : Type 0} (r : Result T E) (P : T → Type 0) (Q : E → Type 0) (x : T) → Some x ≡ result_ok r → MatchResult r P Q → P x
ok_case (Ok y) P Q x e h = let same : x ≡ y = cc in subst P (sym same) h
ok_case (Err y) P Q x e h = let clash : Some x ≡ None = e in cc

pub err_case : {T E : Type 0} (r : Result T E) (P : T → Type 0) (Q : E → Type 0) → None ≡ result_ok r → MatchResult r P Q → (e : E) × Q e
err_case (Ok y) P Q e h = let clash : None ≡ Some y = e in cc
err_case (Err y) P Q e h = (y, h)

-- no number is written so
abbrev NotNumeral : List ℕ → Type 0
NotNumeral digits = (n : ℕ) → 0 < n → n < 2 ^ 16 → decimal n ≡ digits → ⊥

-- these digits, of which the first isn't 0, by what `parse` and `ok` make of them
pub ok_parsed : {E : Type 0} (bs digits : List ℕ) (r : Result ℕ E) → ParsesUnsigned {E = E} 16 10 bs r → bs ≡ digits → 48 < get_or digits 0 0
    → MatchOption (result_ok r) (NotNumeral digits) (λ n. (0 < n) × (decimal n ≡ digits))
ok_parsed {E} bs digits (Ok n) parsed same first =
    let h = decimal_parsed E bs n parsed (omega (arith, ap (λ (t : List ℕ). get_or t 0 0) same)) in (h.0, h.1 ∙ same)
ok_parsed {E} bs digits (Err error) parsed same first = λ n low small e. none_parsed E bs error parsed n small (e ∙ sym same)
