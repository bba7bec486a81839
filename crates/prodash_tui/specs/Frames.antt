-- The signs of what has changed between two grids, and what a display shows after them.
use Rattle.std.specs.Prelude.{◌≡◌, ℕ, ◌+◌, Bool, false, ◌&&◌, ◌||◌, nat_eq, List, [], ◌∷◌, ◌++◌, length, map, replicate, Option, Some, None, if◌then◌else◌}
use Rattle.std.specs.Int.{is_in_range}
use Rattle.prodash_tui.specs.declared.cell.Cell.{Cell}
use Rattle.prodash_tui.specs.declared.cell.Cell.TheVariants.{Holds}
use Rattle.prodash_tui.specs.declared.cursor.Cursor.{Cursor}
use Rattle.prodash_tui.specs.declared.sign.Sign.{Sign}
use Rattle.prodash_tui.specs.declared.sign.Sign.TheVariants.{Char, MoveTo, SetStyle, EraseScreen}
use Rattle.prodash_tui.specs.declared.style.Style.{Style}
use Rattle.prodash_tui.specs.Cells.{plain, same_cell, same_style}
use Rattle.prodash_tui.specs.Differences.{IsProperSheet, row_changes}
use Rattle.prodash_tui.specs.Grids.{Sheet, blank_sheet}
use Rattle.prodash_tui.specs.Displays.{Display, after_signs}

-- is the cursor known to be in this row and column?
abbrev pub is_at : ℕ → ℕ → Cursor → Bool
is_at row column cursor = nat_eq cursor.row row && nat_eq cursor.column column

-- a motion to this row and column, unless the cursor is known to be there
abbrev pub motion : ℕ → ℕ → Option Cursor → List Sign
motion row column None = MoveTo row column ∷ []
motion row column (Some cursor) = if is_at row column cursor then [] else MoveTo row column ∷ []

-- a style, unless it is known to be the present one
abbrev pub style_change : Style → Option Cursor → List Sign
style_change style None = SetStyle style ∷ []
style_change style (Some cursor) = if same_style cursor.style style then [] else SetStyle style ∷ []

-- does every terminal show the character in one column? printable ASCII, box drawing and block elements
abbrev pub is_certain : ℕ → Bool
is_certain c = is_in_range 0x20 0x7E c || is_in_range 0x2500 0x259F c

-- are these the cells of such a character, which none has joined?
abbrev pub are_certain : List Cell → Bool
are_certain (Holds c [] style ∷ []) = is_certain c
are_certain _ = false

-- blanks in the cells of a character that a terminal may show in other columns, and the motion back to the first of them
abbrev pub clearing : ℕ → ℕ → List Cell → List Sign
clearing row column cells = if are_certain cells then [] else map Char (replicate (length cells) 32) ++ MoveTo row column ∷ []

-- the signs of a character at this row and column, with those that have joined it
abbrev pub change_signs : ℕ → ℕ → List Cell → Option Cursor → List Sign
change_signs row column (Holds c joined style ∷ cells) cursor =
    motion row column cursor ++ (style_change style cursor ++ (clearing row column (Holds c joined style ∷ cells) ++ map Char (c ∷ joined)))
change_signs row column _ cursor = []

-- the cursor behind it, which is known only behind a character that every terminal shows in one column
abbrev pub cursor_behind : ℕ → ℕ → List Cell → Option Cursor → Option Cursor
cursor_behind row column (Holds c joined style ∷ cells) cursor =
    if are_certain (Holds c joined style ∷ cells) then Some (record { row = row; column = column + 1; style = style }) else None
cursor_behind row column _ cursor = cursor

-- the signs of the changes of a row
abbrev pub row_signs : ℕ → List (ℕ × List Cell) → Option Cursor → List Sign
row_signs row [] cursor = []
row_signs row (c ∷ changes) cursor = change_signs row c.0 c.1 cursor ++ row_signs row changes (cursor_behind row c.0 c.1 cursor)

-- the cursor behind them
abbrev pub row_cursor : ℕ → List (ℕ × List Cell) → Option Cursor → Option Cursor
row_cursor row [] cursor = cursor
row_cursor row (c ∷ changes) cursor = row_cursor row changes (cursor_behind row c.0 c.1 cursor)

-- the characters of a row that aren't those of the row before
abbrev pub changes_of : List Cell → List Cell → List (ℕ × List Cell)
changes_of old new = row_changes same_cell 0 old new

-- the signs of the changes of rows, of which the first is this one
abbrev pub rows_signs : ℕ → List (List Cell) → List (List Cell) → Option Cursor → List Sign
rows_signs row (a ∷ old) (b ∷ new) cursor = row_signs row (changes_of a b) cursor ++ rows_signs (row + 1) old new (row_cursor row (changes_of a b) cursor)
rows_signs row _ _ cursor = []

-- the signs of a grid on a display that shows this one before, wherever its cursor is
abbrev pub difference : Sheet → Sheet → List Sign
difference before after = rows_signs 0 before.rows after.rows None

-- the signs of a grid, whatever a display shows
abbrev pub first_frame : Sheet → List Sign
first_frame after = SetStyle plain ∷ EraseScreen ∷ difference (blank_sheet after.width after.height) after

-- two grids of one size
pub record HaveOneSize (g h : Sheet) : Type 0 where
  pub width : g.width ≡ h.width
  pub height : g.height ≡ h.height

-- on a display that shows a proper grid, the difference to another one of its size leaves that one
abbrev pub DrawsNext : (ℕ → ℕ) → Type 0
DrawsNext columns = (after : Sheet) (d : Display) → IsProperSheet columns d.grid → IsProperSheet columns after → HaveOneSize d.grid after
    → (after_signs columns (difference d.grid after) d).grid ≡ after

-- on a display of the size of a proper grid, the first frame leaves that grid
abbrev pub DrawsFirst : (ℕ → ℕ) → Type 0
DrawsFirst columns = (after : Sheet) (d : Display) → IsProperSheet columns after → HaveOneSize d.grid after
    → (after_signs columns (first_frame after) d).grid ≡ after
