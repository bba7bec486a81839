-- Texts that are appended to a string, and what a refused call leaves of it.
use Rattle.std.specs.Prelude.{◌≡◌, ℕ, List, ◌++◌, String, string_bytes, length, take}

-- the string after has the bytes of the string before, and then those of the text
abbrev pub Appends : {Z : Type 0} → String Z → List ℕ → String Z → Type 0
Appends before text after = string_bytes after ≡ string_bytes before ++ text

-- the old bytes are a prefix of the new ones
pub record IsPrefix (old new : List ℕ) : Type 0 where
  pub prefix : take (length old) new ≡ old
