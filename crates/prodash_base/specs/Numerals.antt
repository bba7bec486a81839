-- Decimal numerals of numbers and quotients, as the bytes of their digits.
use Rattle.std.specs.Prelude.{ℕ, zero, suc, ◌+◌, ◌*◌, ◌/◌, ◌%◌, ◌^◌, List, [], ◌∷◌, ◌++◌, max, nat_eq, if◌then◌else◌}
use Rattle.std.specs.Fmt.{decimal}

-- the last digits of n, as many as places, with leading zeros if n has fewer
unfoldable pub last_digits : ℕ → ℕ → List ℕ
last_digits zero n = []
last_digits (suc places) n = last_digits places (n / 10) ++ (48 + n % 10) ∷ []

-- a digit before other digits, left out if it is a zero at the end
abbrev pub digit_before : ℕ → List ℕ → List ℕ
digit_before d [] = if nat_eq d 48 then [] else d ∷ []
digit_before d (e ∷ es) = d ∷ e ∷ es

-- digits without the zeros at their end
abbrev pub without_zeros : List ℕ → List ℕ
without_zeros [] = []
without_zeros (d ∷ ds) = digit_before d (without_zeros ds)

-- a decimal point and digits; nothing if there are no digits
abbrev pub after_point : List ℕ → List ℕ
after_point [] = []
after_point (d ∷ ds) = 46 ∷ d ∷ ds

-- the digits of a / b after the decimal point, as many as places, rounded down
abbrev pub decimals : ℕ → ℕ → ℕ → List ℕ
decimals places a b = last_digits places (a * 10 ^ places / b)

-- a / b with exactly as many decimals as places, rounded down
abbrev pub cut : ℕ → ℕ → ℕ → List ℕ
cut places a b = decimal (a / b) ++ after_point (decimals places a b)

-- a / b with at most three decimals, rounded down, without zeros at the end; 0 as a divisor counts as 1
abbrev pub fraction_text : ℕ → ℕ → List ℕ
fraction_text a b = decimal (a / max b 1) ++ after_point (without_zeros (decimals 3 a (max b 1)))
