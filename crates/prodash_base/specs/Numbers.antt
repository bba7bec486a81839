-- Lists of numbers: paths, and texts as their bytes.
use Rattle.std.specs.Prelude.{ℕ, List, Bool, nat_eq}
use Rattle.std.specs.Cmp.Lexicographic.{pointwise}

-- the test of equal lists of numbers, which is true exactly of equal ones
abbrev pub same_numbers : List ℕ → List ℕ → Bool
same_numbers = pointwise nat_eq
