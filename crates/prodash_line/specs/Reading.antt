-- What reading bytes as signs returns.
use Rattle.std.specs.Prelude.{◌≡◌, ℕ, ◌<◌, ◌≤◌, ⊤, List, length, take, Result, Ok, Err}
use Rattle.std.specs.Global.{Vec}
use Rattle.std.specs.List.{AllByRecursion}
use Rattle.prodash_line.specs.declared.render.line.page.sign.Sign.{Sign}
use Rattle.prodash_line.specs.declared.render.line.page.reading.Fault.{Fault}
use Rattle.prodash_line.specs.declared.render.line.page.reading.Fault.TheVariants as faults
use Rattle.prodash_line.specs.Signs.{spelling, IsProper}

-- all of the signs are proper
abbrev pub AreProper : List Sign → Type 0
AreProper signs = AllByRecursion IsProper signs

-- the first n bytes are the longest prefix that proper signs spell, and not all bytes
pub record IsLongestPrefix (bytes : List ℕ) (n : ℕ) : Type 0 where
  pub signs : List Sign
  pub proper : AreProper signs
  pub spells : spelling signs ≡ take n bytes
  pub short : n < length bytes
  pub longest : (others : List Sign) (m : ℕ) → AreProper others → m ≤ length bytes → spelling others ≡ take m bytes → m ≤ n

-- proper signs that spell the bytes; or the length of the longest prefix that proper signs spell; or out of memory
abbrev pub Reads : List ℕ → Result (Vec Sign) Fault → Type 0
Reads bytes (Ok signs) = AreProper signs.items × (spelling signs.items ≡ bytes)
Reads bytes (Err (faults.At n)) = IsLongestPrefix bytes n
Reads bytes (Err faults.Memory) = ⊤

-- these signs, or out of memory
abbrev pub Gives : List Sign → Result (Vec Sign) Fault → Type 0
Gives signs (Ok read) = read.items ≡ signs
Gives signs (Err (faults.At n)) = ⊥
Gives signs (Err faults.Memory) = ⊤

-- if proper signs spell the bytes, they are read, unless it is out of memory
abbrev pub GivesSpelled : List ℕ → Result (Vec Sign) Fault → Type 0
GivesSpelled bytes result = (signs : List Sign) → AreProper signs → spelling signs ≡ bytes → Gives signs result
