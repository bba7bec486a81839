-- Cells, each as a number: its character, its style and the characters that have joined it are digits.
use Rattle.std.specs.Prelude.{◌≡◌, ℕ, zero, suc, ◌+◌, ◌-◌, ◌*◌, ◌/◌, ◌%◌, ◌≤◌, nat_eq, List, [], ◌∷◌, length, slice_get, Option, Some, None, if◌then◌else◌}
use Rattle.std.specs.Char.{IsScalar}
use Rattle.std.specs.List.{AllByRecursion}
use Rattle.prodash_tui.specs.declared.cell.Cell.{Cell}
use Rattle.prodash_tui.specs.declared.cell.Cell.TheVariants.{Holds, Half}
use Rattle.prodash_tui.specs.declared.style.Color.{Color}
use Rattle.prodash_tui.specs.declared.style.Color.TheVariants.{Black, Red, Green, Yellow, White, LightRed}
use Rattle.prodash_tui.specs.declared.style.Style.{Style}

-- a digit for a character has this base; 0 is none, and the digit of a character is one more than its code
abbrev pub char_base : ℕ
char_base = 0x20_0000

-- a digit for a style has this base
abbrev pub style_base : ℕ
style_base = 128

-- a colour as a digit from 0 to 7
abbrev pub color_digit : Option Color → ℕ
color_digit None = 0
color_digit (Some Black) = 1
color_digit (Some Red) = 2
color_digit (Some Green) = 3
color_digit (Some Yellow) = 4
color_digit (Some White) = 5
color_digit (Some LightRed) = 6

-- the colour of a digit
abbrev pub color_of_digit : ℕ → Option Color
color_of_digit n =
    if nat_eq n 1 then Some Black
    else (if nat_eq n 2 then Some Red
    else (if nat_eq n 3 then Some Green
    else (if nat_eq n 4 then Some Yellow
    else (if nat_eq n 5 then Some White
    else (if nat_eq n 6 then Some LightRed
    else None)))))

-- whether it is bold, and its two colours, as a digit
abbrev pub style_digit : Style → ℕ
style_digit s = (if s.bold then 1 else 0) + 2 * (color_digit s.foreground + 8 * color_digit s.background)

-- the style of a digit
abbrev pub style_of_digit : ℕ → Style
style_of_digit n = record { bold = nat_eq (n % 2) 1; foreground = color_of_digit (n / 2 % 8); background = color_of_digit (n / 2 / 8) }

-- characters as the digits of a number, the first one last
abbrev pub packed_chars : List ℕ → ℕ
packed_chars [] = 0
packed_chars (c ∷ chars) = (c + 1) + char_base * packed_chars chars

-- one more than a character, or 0 if there is none
abbrev pub digit_or_none : Option ℕ → ℕ
digit_or_none None = 0
digit_or_none (Some c) = c + 1

-- the digit of the character in place k
abbrev pub digit_at : List ℕ → ℕ → ℕ
digit_at chars k = digit_or_none (slice_get chars k)

-- a character of Unicode, or none
abbrev pub IsScalarIfAny : Option ℕ → Type 0
IsScalarIfAny None = Unit {0}
IsScalarIfAny (Some c) = IsScalar c

-- the characters of at most so many digits of a number
abbrev pub unpacked_chars : ℕ → ℕ → List ℕ
unpacked_chars zero n = []
unpacked_chars (suc most) n = if nat_eq (n % char_base) 0 then [] else (n % char_base - 1) ∷ unpacked_chars most (n / char_base)

-- a cell as a number; a second half is 0
abbrev pub packed_cell : Cell → ℕ
packed_cell (Holds c joined style) = (c + 1) + char_base * (style_digit style + style_base * packed_chars joined)
packed_cell Half = 0

-- the cell of a number
abbrev pub unpacked_cell : ℕ → Cell
unpacked_cell n =
    if nat_eq (n % char_base) 0 then Half
    else Holds (n % char_base - 1) (unpacked_chars 4 (n / char_base / style_base)) (style_of_digit (n / char_base % style_base))

-- a cell that a number has room for: of characters of Unicode, of which at most four have joined the first
abbrev pub HasRoom : Cell → Type 0
HasRoom (Holds c joined style) = IsScalar c × (length joined ≤ 4) × AllByRecursion IsScalar joined
HasRoom Half = Unit {0}

-- the number is that of its cell
pub record IsPacked (n : ℕ) : Type 0 where
  pub code : n ≡ packed_cell (unpacked_cell n)
  pub room : HasRoom (unpacked_cell n)
