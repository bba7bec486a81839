-- Characters that make a text wider by their own width.
use Rattle.std.specs.Prelude.{◌≡◌, ℕ, ◌+◌, Bool, false, ◌||◌, List, [], ◌∷◌, ◌++◌}
use Rattle.std.specs.Int.{is_in_range}
use Rattle.unicode_width.specs.Width.{str_width}

-- at the end of any text the character makes it wider by so many columns
abbrev pub AddsWidth : ℕ → ℕ → Type 0
AddsWidth c columns = (text : List ℕ) → str_width false (text ++ c ∷ []) ≡ str_width false text + columns

-- characters whose own width that is: printable ASCII, and whole blocks of others
abbrev pub adds_its_width : ℕ → Bool
adds_its_width c =
    is_in_range 0x20 0x7E c || is_in_range 0xA1 0x337 c || is_in_range 0x339 0x5DB c || is_in_range 0x900 0x177F c || is_in_range 0x1A11 0x2319 c
    || is_in_range 0x2D70 0xA4FB c || is_in_range 0xA4FE 0xFB3B c || is_in_range 0xFF00 0xFFFD c || is_in_range 0x20000 0x3FFFD c
