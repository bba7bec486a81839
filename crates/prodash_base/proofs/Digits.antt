-- Digits after a decimal point.
use Rattle.std.proofs.Common.{◌≡◌, ℕ, zero, suc, ◌+◌, ◌-◌, ◌/◌, ◌%◌, ◌^◌, ◌<◌, ◌≤◌, List, [], ◌∷◌, ◌++◌, refl, sym, ap, ◌∙◌, arith, append-nil, append_assoc, false}
use Rattle.std.proofs.lemmas.Fmt.{decimal_digit, decimal_step}
use Rattle.std.specs.Fmt.{decimal}
use Rattle.std.specs.Prelude.{nat_eq}
use Rattle.prodash_base.specs.Numerals.{last_digits, digit_before, without_zeros, after_point}

-- appending the empty text changes nothing
pub append_none : (old text : List ℕ) → text ≡ [] → old ≡ old ++ text
append_none old text e = sym (append-nil old) ∙ ap (λ t. old ++ t) (sym e)

-- no places have no digits
pub last_digits-none : (places n : ℕ) → places ≡ 0 → last_digits places n ≡ []
unfolding last_digits
last_digits-none zero n e = refl
last_digits-none (suc places) n e = cc

-- one digit is the last
pub last_digits-one : (places n : ℕ) → places ≡ 1 → last_digits places n ≡ (48 + n % 10) ∷ []
unfolding last_digits
last_digits-one places n e = ap (λ k. last_digits k n) e

-- two digits are those of what is left of hundreds
pub last_digits-rest : (places n : ℕ) → places ≡ 2 → last_digits 2 (n % 100) ≡ last_digits places n
unfolding last_digits
last_digits-rest places n e =
    let tens : n % 100 / 10 % 10 ≡ n / 10 % 10 = omega arith in
    let ones : n % 100 % 10 ≡ n % 10 = omega arith in
    ap (λ d. (48 + d) ∷ (48 + n % 100 % 10) ∷ []) tens ∙ ap (λ d. (48 + n / 10 % 10) ∷ (48 + d) ∷ []) ones ∙ ap (λ k. last_digits k n) (sym e)

-- the last digit is after those of the tenth
pub last_digits-last : (places n : ℕ) → 0 < places → last_digits places n ≡ last_digits (places - 1) (n / 10) ++ (48 + n % 10) ∷ []
unfolding last_digits
last_digits-last zero n h = let no : ⊥ = omega arith in absurd no
last_digits-last (suc places) n h = let e : suc places - 1 ≡ places = omega arith in rw e refl

-- the digits of a number below 100
pub last_digits-two : (n : ℕ) → n < 100 → last_digits 2 n ≡ (48 + n / 10) ∷ (48 + n % 10) ∷ []
unfolding last_digits
last_digits-two n h = let e : n / 10 % 10 ≡ n / 10 = omega arith in ap (λ d. (48 + d) ∷ (48 + n % 10) ∷ []) e

-- a number of two digits
pub decimal_two : (n : ℕ) → 10 ≤ n → n < 100 → last_digits 2 n ≡ decimal n
decimal_two n low high =
    last_digits-two n high ∙ ap (λ t. t ++ (48 + n % 10) ∷ []) (sym (decimal_digit (n / 10) (omega arith))) ∙ sym (decimal_step n low (omega arith))

-- the digits of a number that has two
pub decimal-tens : (n : ℕ) → 10 ≤ n → n < 100 → decimal n ≡ (48 + n / 10) ∷ (48 + n % 10) ∷ []
decimal-tens n low high = sym (decimal_two n low high) ∙ last_digits-two n high

-- a number with more than two digits, the last two apart
pub decimal_pair : (n : ℕ) → 100 ≤ n → n < 2 ^ 64 → decimal (n / 100) ++ last_digits 2 (n % 100) ≡ decimal n
decimal_pair n low high =
    let tens : n / 100 ≡ n / 10 / 10 = omega arith in
    let ten : n % 100 / 10 ≡ n / 10 % 10 = omega arith in
    let one : n % 100 % 10 ≡ n % 10 = omega arith in
    ap (λ ds. decimal (n / 100) ++ ds) (last_digits-two (n % 100) (omega arith))
    ∙ ap (λ k. decimal k ++ ((48 + n % 100 / 10) ∷ (48 + n % 100 % 10) ∷ [])) tens
    ∙ ap (λ k. decimal (n / 10 / 10) ++ ((48 + k) ∷ (48 + n % 100 % 10) ∷ [])) ten
    ∙ ap (λ k. decimal (n / 10 / 10) ++ ((48 + n / 10 % 10) ∷ (48 + k) ∷ [])) one
    ∙ sym (append_assoc (decimal (n / 10 / 10)) ((48 + n / 10 % 10) ∷ []) ((48 + n % 10) ∷ []))
    ∙ ap (λ t. t ++ (48 + n % 10) ∷ []) (sym (decimal_step (n / 10) (omega arith) (omega arith)))
    ∙ sym (decimal_step n (omega arith) high)

-- the digits after a point: one, or two
pub after_point-one : (places n : ℕ) → places ≡ 1 → after_point (last_digits places n) ≡ 46 ∷ (48 + n % 10) ∷ []
after_point-one places n e = ap after_point (last_digits-one places n e)

pub after_point-two : (places n : ℕ) → places ≡ 2 → after_point (last_digits places n) ≡ 46 ∷ (48 + n / 10 % 10) ∷ (48 + n % 10) ∷ []
unfolding last_digits
after_point-two places n e = ap (λ k. after_point (last_digits k n)) e

after_point-end : (ds : List ℕ) (d : ℕ) → after_point (ds ++ d ∷ []) ≡ 46 ∷ (ds ++ d ∷ [])
after_point-end [] d = refl
after_point-end (e ∷ ds) d = refl

-- a point is before the digits if there are any
pub after_point-some : (places n : ℕ) → 0 < places → after_point (last_digits places n) ≡ 46 ∷ last_digits places n
after_point-some places n h = let e = last_digits-last places n h in ap after_point e ∙ after_point-end _ _ ∙ ap (λ ds. 46 ∷ ds) (sym e)

without_zeros-zero : (ds : List ℕ) → without_zeros (ds ++ 48 ∷ []) ≡ without_zeros ds
without_zeros-zero [] = refl
without_zeros-zero (d ∷ ds) = ap (digit_before d) (without_zeros-zero ds)

digit_before-end : (e d : ℕ) (ds : List ℕ) → digit_before e (ds ++ d ∷ []) ≡ e ∷ (ds ++ d ∷ [])
digit_before-end e d [] = refl
digit_before-end e d (x ∷ ds) = refl

without_zeros-digit : (ds : List ℕ) (d : ℕ) → nat_eq d 48 ≡ false → without_zeros (ds ++ d ∷ []) ≡ ds ++ d ∷ []
without_zeros-digit [] d h = rw h refl
without_zeros-digit (e ∷ ds) d h = ap (digit_before e) (without_zeros-digit ds d h) ∙ digit_before-end e d ds

-- a zero at the end is left out
pub without_zeros-less : (places n : ℕ) → 0 < places → n % 10 ≡ 0 → without_zeros (last_digits places n) ≡ without_zeros (last_digits (places - 1) (n / 10))
without_zeros-less places n h z =
    ap without_zeros (last_digits-last places n h ∙ ap (λ d. last_digits (places - 1) (n / 10) ++ (48 + d) ∷ []) z) ∙ without_zeros-zero (last_digits (places - 1) (n / 10))

not_zero : (d : ℕ) → ¬ (d ≡ 0) → nat_eq (48 + d) 48 ≡ false
not_zero d h = grind arith

-- any other digit at the end stays, and so do all before it
pub without_zeros-all : (places n : ℕ) → 0 < places → ¬ (n % 10 ≡ 0) → without_zeros (last_digits places n) ≡ last_digits places n
without_zeros-all places n h z =
    let e = last_digits-last places n h in
    ap without_zeros e ∙ without_zeros-digit _ _ (not_zero (n % 10) z) ∙ sym e

-- no digits have no zeros
pub without_zeros-none : (places n : ℕ) → places ≡ 0 → without_zeros (last_digits places n) ≡ last_digits places n
without_zeros-none places n e = ap without_zeros (last_digits-none places n e) ∙ sym (last_digits-none places n e)
