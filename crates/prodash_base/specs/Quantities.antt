-- Percentages, bytes, large numbers and durations as texts.
use Rattle.std.specs.Prelude.{ℕ, ◌-◌, ◌*◌, ◌/◌, ◌%◌, ◌^◌, min, nat_eq, nat_lt, List, [], ◌∷◌, ◌++◌, codes, Option, Some, None, if◌then◌else◌}
use Rattle.std.specs.Fmt.{decimal}
use Rattle.prodash_base.specs.Numerals.{cut}

-- how many hundredths of the bound the value is, rounded down, at most 2^64 - 1; with the bound 0 it is 0 for the value 0, and else 2^64 - 1
abbrev pub percentage_of : ℕ → ℕ → ℕ
percentage_of value bound =
    if nat_eq bound 0 then (if nat_eq value 0 then 0 else 2 ^ 64 - 1)
    else min (100 * value / bound) (2 ^ 64 - 1)

-- the greatest power of 1000 up to 1000^6 that is at most n, with its letter of k, M, G, T, P and E; none if n is less than 1000
abbrev pub scale_of : ℕ → Option (ℕ × ℕ)
scale_of n =
    if nat_lt n (10 ^ 3) then None
    else if nat_lt n (10 ^ 6) then Some (10 ^ 3, 107)
    else if nat_lt n (10 ^ 9) then Some (10 ^ 6, 77)
    else if nat_lt n (10 ^ 12) then Some (10 ^ 9, 71)
    else if nat_lt n (10 ^ 15) then Some (10 ^ 12, 84)
    else if nat_lt n (10 ^ 18) then Some (10 ^ 15, 80)
    else Some (10 ^ 18, 69)

-- n over its scale with exactly as many decimals as places, rounded down, and the letter; n as it is without a scale
abbrev pub scaled : ℕ → ℕ → Option (ℕ × ℕ) → List ℕ
scaled places n None = decimal n
scaled places n (Some scale) = cut places n scale.0 ++ scale.1 ∷ []

-- a number of bytes, as `18.4EB`
abbrev pub bytes_text : ℕ → List ℕ
bytes_text n = scaled 1 n (scale_of n) ++ codes "B"

-- a large number with this many decimals, as `2.54M`; more than six decimals count as six
abbrev pub human_text : ℕ → ℕ → List ℕ
human_text places n = scaled (min places 6) n (scale_of n)

-- a part of a duration, as `20m`; nothing if it is zero
abbrev pub duration_part : ℕ → List ℕ → List ℕ
duration_part n letter = if nat_eq n 0 then [] else decimal n ++ letter

-- a number of seconds in days, hours, minutes and seconds, as `7d4h20m10s`
abbrev pub duration_text : ℕ → List ℕ
duration_text n =
    if nat_eq n 0 then codes "0s"
    else duration_part (n / 86400) (codes "d")
    ++ duration_part (n / 3600 % 24) (codes "h")
    ++ duration_part (n / 60 % 60) (codes "m")
    ++ duration_part (n % 60) (codes "s")
