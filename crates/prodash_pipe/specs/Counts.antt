-- What passes through a copy, counted, and the line that shows a count.
use Rattle.std.specs.Prelude.{◌≡◌, ℕ, ◌+◌, ◌-◌, ◌^◌, ◌==◌, min, Bool, List, ◌++◌, length, All, Option, codes, decimal, count_by}
use Rattle.std.specs.Io.KnownBytes.{Appends}
use Rattle.prodash_pipe.specs.declared.unit.Unit.{Unit}
use Rattle.prodash_pipe.specs.declared.unit.Unit.TheVariants.{Bytes, Lines}

-- whether a byte ends a line
abbrev pub is_line_feed : ℕ → Bool
is_line_feed byte = byte == 10

-- how much bytes count: themselves, or the line feeds among them
abbrev pub size : Unit → List ℕ → ℕ
size Bytes bytes = length bytes
size Lines bytes = count_by is_line_feed bytes

-- the count once these bytes have passed, as far as 64 bits have room
abbrev pub count_after : Unit → ℕ → List ℕ → ℕ
count_after unit n bytes = n + min (size unit bytes) (2 ^ 64 - 1 - n)

-- a count, and the counts that were shown, where they are known
pub record MeterOf : Type 0 where
  pub unit : Unit
  pub count : ℕ
  pub shown : Option (List ℕ)

-- the event line that sets the step of the item of this word
abbrev pub count_line : List ℕ → ℕ → List ℕ
count_line word n = codes "set " ++ (word ++ (codes " " ++ (decimal n ++ codes "\n")))

-- a count is that of a beginning of the bytes
abbrev pub IsCountOfFront : MeterOf → List ℕ → ℕ → Type 0
IsCountOfFront m bytes count = (front rest : List ℕ) × (bytes ≡ front ++ rest) × (count ≡ count_after m.unit m.count front)

-- Bytes are counted, and each count that is shown meanwhile is that of a beginning of them.
pub record Counts (bytes : List ℕ) (m m' : MeterOf) : Type 0 where
  pub count : m'.count ≡ count_after m.unit m.count bytes
  pub unit : m'.unit ≡ m.unit
  pub counts : List ℕ
  pub shown : Appends m.shown m'.shown counts
  pub fronts : All (IsCountOfFront m bytes) counts
