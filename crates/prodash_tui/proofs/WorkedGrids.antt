-- The definitions of texts, rows and grids, computed.
use Rattle.std.proofs.Common.{◌≡◌, ℕ, cond, List, [], ◌∷◌, ◌++◌, map, refl, eqb}
use Rattle.std.specs.Prelude.{replicate, true, codes}
use Rattle.unicode_width.proofs.Computing.{unicode_width}
use Rattle.prodash_core.specs.declared.render.tui.event.Rect.{Rect}
use Rattle.prodash_tui.specs.declared.cell.Cell.{Cell}
use Rattle.prodash_tui.specs.declared.cell.Cell.TheVariants.{Holds, Half}
use Rattle.prodash_tui.specs.declared.style.Style.{Style}
use Rattle.prodash_tui.specs.Cells.{blank_cell, blank_cells, cell_of, plain}
use Rattle.prodash_tui.specs.Texts.{cut, shortened, text_cells}
use Rattle.prodash_tui.specs.Rows.{splice}
use Rattle.prodash_tui.specs.Grids.{blank_sheet, with_border, with_filling, with_shortened, with_text}

-- U+0301 joins the character before it, U+65E5 is wide, and others have one column
abbrev some_columns : ℕ → ℕ
some_columns c = cond (eqb c 0x301) 0 (cond (eqb c 0x65E5) 2 1)

abbrev bold : Style
bold = record plain { bold = true }

abbrev one : ℕ → Cell
one c = cell_of bold c

abbrev cells : List ℕ → List Cell
cells text = text_cells some_columns bold text

-- ---- texts

-- `a`, a wide character, `e` and what joins it; one that joins nothing isn't shown
pub mixed : cells (0x301 ∷ 97 ∷ 0x65E5 ∷ 101 ∷ 0x301 ∷ []) ≡ one 97 ∷ one 0x65E5 ∷ Half ∷ Holds 101 (0x301 ∷ []) bold ∷ []
mixed = refl

-- of six that join only four are held
pub many_joined : cells (101 ∷ replicate 6 0x301) ≡ Holds 101 (replicate 4 0x301) bold ∷ []
many_joined = refl

-- a wide character that only one column is left for isn't drawn
pub cut_wide : cut 2 (cells (97 ∷ 0x65E5 ∷ 98 ∷ [])) ≡ one 97 ∷ []
cut_wide = refl

pub cut_behind_wide : cut 3 (cells (97 ∷ 0x65E5 ∷ 98 ∷ [])) ≡ one 97 ∷ one 0x65E5 ∷ Half ∷ []
cut_behind_wide = refl

-- a text that fits, one that doesn't, and one whose wide character leaves two columns for the ellipsis
pub whole : shortened bold 4 (cells (codes "abcd")) ≡ cells (codes "abcd")
whole = refl

pub long : shortened bold 4 (cells (codes "abcde")) ≡ cells (codes "abc") ++ one 0x2026 ∷ []
long = refl

pub long_wide : shortened bold 4 (cells (97 ∷ 98 ∷ 0x65E5 ∷ 99 ∷ [])) ≡ one 97 ∷ one 98 ∷ one 0x2026 ∷ []
long_wide = refl

-- one column has room for the ellipsis alone, and none for nothing
pub long_in_one : shortened bold 1 (cells (codes "ab")) ≡ one 0x2026 ∷ []
long_in_one = refl

pub long_in_none : shortened bold 0 (cells (codes "ab")) ≡ []
long_in_none = refl

-- ---- rows

-- three wide characters
abbrev wide_row : List Cell
wide_row = cells (replicate 3 0x65E5)

-- a character over the second half of the first one, and over the first half of the second one
pub over_second_half : splice 1 (one 97 ∷ []) wide_row ≡ blank_cell ∷ one 97 ∷ one 0x65E5 ∷ Half ∷ one 0x65E5 ∷ Half ∷ []
over_second_half = refl

pub over_first_half : splice 2 (one 97 ∷ []) wide_row ≡ one 0x65E5 ∷ Half ∷ one 97 ∷ blank_cell ∷ one 0x65E5 ∷ Half ∷ []
over_first_half = refl

-- a wide character over the halves of two
pub over_two : splice 1 (one 0x65E5 ∷ Half ∷ []) wide_row ≡ blank_cell ∷ one 0x65E5 ∷ Half ∷ blank_cell ∷ one 0x65E5 ∷ Half ∷ []
over_two = refl

-- ---- grids

abbrev rect : ℕ → ℕ → ℕ → ℕ → Rect
rect x y width height = record { x = x; y = y; width = width; height = height }

-- a row of the characters of a text, each in a cell, in the plain style
abbrev row : List ℕ → List Cell
row text = map (cell_of plain) text

-- a text in a rectangle of three columns, of which two are on the grid
pub text_at_edge : (with_text (rect 3 1 3 1) bold (codes "abc") (blank_sheet 5 2)).rows
    ≡ blank_cells 5 ∷ (blank_cells 3 ++ one 97 ∷ one 98 ∷ []) ∷ []
unfolding unicode_width
text_at_edge = refl

-- below the grid, right of it, or in no rows, nothing is drawn
pub text_below : with_text (rect 0 2 3 1) bold (codes "abc") (blank_sheet 5 2) ≡ blank_sheet 5 2
unfolding unicode_width
text_below = refl

pub text_right : with_text (rect 7 0 3 1) bold (codes "abc") (blank_sheet 5 2) ≡ blank_sheet 5 2
unfolding unicode_width
text_right = refl

pub text_in_no_row : with_text (rect 0 0 3 0) bold (codes "abc") (blank_sheet 5 2) ≡ blank_sheet 5 2
unfolding unicode_width
text_in_no_row = refl

-- a control character is shown as U+FFFD
pub unsafe_text : (with_text (rect 0 0 3 1) plain (97 ∷ 9 ∷ 98 ∷ []) (blank_sheet 3 1)).rows ≡ row (97 ∷ 0xFFFD ∷ 98 ∷ []) ∷ []
unfolding unicode_width
unsafe_text = refl

-- a text with an ellipsis
pub shortened_text : (with_shortened (rect 1 0 3 1) plain (codes "abcd") (blank_sheet 5 1)).rows
    ≡ row (32 ∷ 97 ∷ 98 ∷ 0x2026 ∷ 32 ∷ []) ∷ []
unfolding unicode_width
shortened_text = refl

-- two of three rows filled, with a rectangle that goes beyond the last one
pub filled : (with_filling (rect 1 1 2 9) plain 35 (blank_sheet 4 3)).rows ≡ row (codes "    ") ∷ row (codes " ## ") ∷ row (codes " ## ") ∷ []
unfolding unicode_width
filled = refl

-- a border
pub bordered : (with_border (rect 0 0 4 3) plain (blank_sheet 5 3)).rows
    ≡ row (0x250C ∷ 0x2500 ∷ 0x2500 ∷ 0x2510 ∷ 32 ∷ [])
    ∷ row (0x2502 ∷ 32 ∷ 32 ∷ 0x2502 ∷ 32 ∷ [])
    ∷ row (0x2514 ∷ 0x2500 ∷ 0x2500 ∷ 0x2518 ∷ 32 ∷ [])
    ∷ []
unfolding unicode_width
bordered = refl

-- in one row, and in one column
pub bordered_row : (with_border (rect 0 0 4 1) plain (blank_sheet 5 1)).rows ≡ row (0x250C ∷ 0x2500 ∷ 0x2500 ∷ 0x2510 ∷ 32 ∷ []) ∷ []
unfolding unicode_width
bordered_row = refl

pub bordered_column : (with_border (rect 1 0 1 3) plain (blank_sheet 2 3)).rows ≡ row (32 ∷ 0x250C ∷ []) ∷ row (32 ∷ 0x2502 ∷ []) ∷ row (32 ∷ 0x2514 ∷ []) ∷ []
unfolding unicode_width
bordered_column = refl
