-- The length of a time of day as text.
use Rattle.std.proofs.Common.{◌≡◌, ℕ, zero, suc, ◌+◌, ◌/◌, ◌%◌, ◌∷◌, [], length, refl, arith}
use Rattle.std.proofs.lemmas.List.{length-append}
use Rattle.prodash_base.specs.Numerals.{last_digits}
use Rattle.prodash_base.specs.Moments.{clock_text}

pub length-last_digits : (places n : ℕ) → length (last_digits places n) ≡ places
unfolding last_digits
length-last_digits zero n = refl
length-last_digits (suc places) n =
    let shorter = length-last_digits places (n / 10) in
    let longer = length-append (last_digits places (n / 10)) ((48 + n % 10) ∷ []) in
    omega arith

pub length-clock_text : (seconds : ℕ) → length (clock_text seconds) ≡ 8
length-clock_text seconds = simp (length-append {A = ℕ}, length-last_digits)
