-- The words by which keys are compared: the numbers of a path two by two.
use Rattle.std.specs.Prelude.{ℕ, ◌+◌, ◌*◌, ◌^◌}
use Rattle.std.specs.List.{slice_index_or}
use Rattle.prodash_base.specs.Path.{Path}

-- the number of a path at an index, and 0 past its end
abbrev pub number_at : Path → ℕ → ℕ
number_at p i = slice_index_or p i 0

-- the word of 64 bits with two numbers, the first in its higher half
abbrev pub word_of : ℕ → ℕ → ℕ
word_of high low = high * 2 ^ 32 + low

-- the word of the numbers at an index and after it
abbrev pub word_at : Path → ℕ → ℕ
word_at p i = word_of (number_at p i) (number_at p (i + 1))
