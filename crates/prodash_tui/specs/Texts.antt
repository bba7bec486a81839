-- The cells of texts.
use Rattle.std.specs.Prelude.{ℕ, zero, suc, ◌-◌, min, nat_le, List, [], ◌∷◌, ◌++◌, length, map, take, replicate, chars, if◌then◌else◌}
use Rattle.prodash_line.specs.CellRows.{char_columns, joined, text_columns}
use Rattle.prodash_line.specs.DrawnLines.{safe_char}
use Rattle.prodash_tui.specs.declared.cell.Cell.{Cell}
use Rattle.prodash_tui.specs.declared.cell.Cell.TheVariants.{Holds, Half}
use Rattle.prodash_tui.specs.declared.style.Style.{Style}
use Rattle.prodash_tui.specs.Cells.{cell_of, cell_at, is_half, held}

-- the characters of a text as they are drawn: U+FFFD in place of each unsafe one
abbrev pub drawn_text : List ℕ → List ℕ
drawn_text text = map safe_char (chars text)

-- a character of so many columns, with those that join it, before these cells
abbrev pub cells_with : Style → ℕ → ℕ → List ℕ → List Cell → List Cell
cells_with style zero c joined cells = cells
cells_with style (suc zero) c joined cells = Holds c (held joined) style ∷ cells
cells_with style (suc (suc n)) c joined cells = Holds c (held joined) style ∷ Half ∷ cells

-- each character of a text in its cells, with those of no column behind it
abbrev pub text_cells : (ℕ → ℕ) → Style → List ℕ → List Cell
text_cells columns style [] = []
text_cells columns style (c ∷ text) = cells_with style (columns c) c (joined columns text) (text_cells columns style text)

-- the first n cells, but no first half of a wide character without the second
abbrev pub cut : ℕ → List Cell → List Cell
cut n cells = if is_half (cell_at cells n) then take (n - 1) cells else take n cells

-- the cells if there are at most n, else as many as leave a column for an ellipsis, and that
abbrev pub shortened : Style → ℕ → List Cell → List Cell
shortened style n cells =
    if nat_le (length cells) n then cells else take n (cut (n - 1) cells ++ cell_of style 0x2026 ∷ [])

-- a text in at most n columns
abbrev pub text_cut : Style → ℕ → List ℕ → List Cell
text_cut style n text = cut n (text_cells char_columns style (drawn_text text))

-- a text in at most n columns, with an ellipsis if it has more
abbrev pub text_shortened : Style → ℕ → List ℕ → List Cell
text_shortened style n text = shortened style n (text_cells char_columns style (drawn_text text))

-- n columns of a character, or as many as it fills
abbrev pub filling : Style → ℕ → ℕ → List Cell
filling style n c = cut n (text_cells char_columns style (replicate n (safe_char c)))

-- how many columns a text has, at most 65535
abbrev pub block_width : List ℕ → ℕ
block_width text = min (text_columns char_columns (drawn_text text)) 65535
