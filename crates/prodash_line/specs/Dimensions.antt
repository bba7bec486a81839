-- A size of a terminal, as a word of the command line or of the environment says it.
use Rattle.std.specs.Prelude.{ℕ, ◌<◌, ◌≤◌, List}
use Rattle.std.specs.Str.Parse.{IsNumeral, digits_value}

-- a word that names a number of columns or rows
abbrev pub IsDimension : List ℕ → Type 0
IsDimension word = IsNumeral 10 word × (0 < digits_value 10 word) × (digits_value 10 word ≤ 65535)
