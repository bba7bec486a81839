-- Texts that take no memory of their own.
use Rattle.std.specs.Prelude.{ℕ, List, length, ◌≤◌}

-- the text lies in the value that owns it
abbrev pub IsShort : List ℕ → Type 0
IsShort text = length text ≤ 30
