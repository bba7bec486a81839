-- The days and hours of durations.
use Rattle.std.specs.Prelude.{ℕ, ◌/◌, ◌%◌, List, ◌++◌, codes}
use Rattle.prodash_base.specs.Quantities.{duration_part}

-- a number of hours in days and hours, as `7d4h`; nothing if it is zero
abbrev pub hours_text : ℕ → List ℕ
hours_text n = duration_part (n / 24) (codes "d") ++ duration_part (n % 24) (codes "h")
