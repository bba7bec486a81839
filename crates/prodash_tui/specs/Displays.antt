-- A display: a terminal's two screens, and what signs leave of them.
use Rattle.std.specs.Prelude.{ℕ, zero, suc, ◌+◌, ◌-◌, min, Bool, true, false, ◌&&◌, nat_lt, List, [], ◌∷◌, ◌++◌, length, drop, replicate, slice_index_or, slice_set, Option, Some, None, unwrap_or, if◌then◌else◌}
use Rattle.prodash_tui.specs.declared.cell.Cell.{Cell}
use Rattle.prodash_tui.specs.declared.cell.Cell.TheVariants.{Holds, Half}
use Rattle.prodash_tui.specs.declared.cursor.Cursor.{Cursor}
use Rattle.prodash_tui.specs.declared.sign.Sign.{Sign}
use Rattle.prodash_tui.specs.declared.sign.Sign.TheVariants.{Char, MoveTo, SetStyle, EraseScreen, EnterAlternate, LeaveAlternate, HideCursor, ShowCursor, NoWrap, Wrap}
use Rattle.prodash_tui.specs.Cells.{cell_at, cell_of, is_half, plain}
use Rattle.prodash_tui.specs.Rows.{splice}
use Rattle.prodash_tui.specs.Texts.{cells_with, cut}
use Rattle.prodash_tui.specs.Grids.{Sheet}

-- what it shows, where it writes the next character and in which style, the main screen and its cursor while it shows the alternate one, whether it
-- shows the cursor, and whether a character past the last column goes to the next row
pub record Display : Type 0 where
  pub grid : Sheet
  pub cursor : Cursor
  pub main : Option (Sheet × Cursor)
  pub shows_cursor : Bool
  pub wraps : Bool

-- the display with the cursor's row changed
abbrev pub in_cursor_row : (List Cell → List Cell) → Display → Display
in_cursor_row f d = record d { grid = record d.grid { rows = slice_set d.grid.rows d.cursor.row (f (slice_index_or d.grid.rows d.cursor.row [])) } }

-- the display with these cells at the cursor, or at the end of its row if they have no room there
abbrev pub with_written : List Cell → Display → Display
with_written new d =
    let x = min d.cursor.column (d.grid.width - length new) in
    record (in_cursor_row (splice x new) d) { cursor = record d.cursor { column = x + length new } }

-- a row of blank cells, on the background of the present style
abbrev pub blank_row : Display → List Cell
blank_row d = replicate d.grid.width (cell_of (record plain { background = d.cursor.style.background }) 32)

-- the display with its rows moved up by one, and a blank one below them
abbrev pub scrolled : Display → Display
scrolled d = record d { grid = record d.grid { rows = drop 1 d.grid.rows ++ blank_row d ∷ [] } }

-- the display with its cursor at the beginning of this row
abbrev pub at_row : ℕ → Display → Display
at_row row d = record d { cursor = record d.cursor { row = row; column = 0 } }

-- the display with its cursor at the beginning of the next row; below the last one the rows are moved up
abbrev pub at_next_row : Display → Display
at_next_row d = if nat_lt (d.cursor.row + 1) d.grid.height then at_row (d.cursor.row + 1) d else at_row d.cursor.row (scrolled d)

-- are these cells to be in the next row? if they have no room at the cursor, and characters wrap
abbrev pub goes_on : List Cell → Display → Bool
goes_on new d = d.wraps && nat_lt d.grid.width (d.cursor.column + length new)

-- the display with these cells at the cursor, or in the next row
abbrev pub with_wrapped : List Cell → Display → Display
with_wrapped new d = with_written new (if goes_on new d then at_next_row d else d)

-- a character joins the one in a cell
abbrev pub more_joined : ℕ → Cell → Cell
more_joined c (Holds d joined style) = Holds d (joined ++ c ∷ []) style
more_joined c Half = Half

-- where the character of cell k is
abbrev pub first_half : List Cell → ℕ → ℕ
first_half row k = if is_half (cell_at row k) then k - 1 else k

-- a character joins the one before this column, if there is one
abbrev pub join_before : ℕ → ℕ → List Cell → List Cell
join_before zero c row = row
join_before (suc k) c row = let n = first_half row k in slice_set row n (more_joined c (cell_at row n))

-- a character of so many columns; one of no column joins the one before the cursor, and one that is wider than the display isn't shown
abbrev pub after_char : ℕ → ℕ → Display → Display
after_char zero c d = in_cursor_row (join_before d.cursor.column c) d
after_char (suc n) c d = with_wrapped (cut d.grid.width (cells_with d.cursor.style (suc n) c [] [])) d

-- the display with all cells blank, on the background of the present style
abbrev pub erased : Display → Display
erased d = record d { grid = record d.grid { rows = replicate d.grid.height (blank_row d) } }

-- the main screen and its cursor
abbrev pub main_of : Display → Sheet × Cursor
main_of d = unwrap_or d.main (d.grid, d.cursor)

-- the display after one sign, if it gives characters so many columns
abbrev pub after_sign : (ℕ → ℕ) → Sign → Display → Display
after_sign columns (Char c) d = after_char (columns c) c d
after_sign columns (MoveTo row column) d =
    record d { cursor = record d.cursor { row = min row (d.grid.height - 1); column = min column (d.grid.width - 1) } }
after_sign columns (SetStyle style) d = record d { cursor = record d.cursor { style = style } }
after_sign columns EraseScreen d = erased d
after_sign columns EnterAlternate d = erased (record d { main = Some (main_of d) })
after_sign columns LeaveAlternate d = record d { grid = (main_of d).0; cursor = (main_of d).1; main = None }
after_sign columns HideCursor d = record d { shows_cursor = false }
after_sign columns ShowCursor d = record d { shows_cursor = true }
after_sign columns NoWrap d = record d { wraps = false }
after_sign columns Wrap d = record d { wraps = true }

-- the display after these signs
abbrev pub after_signs : (ℕ → ℕ) → List Sign → Display → Display
after_signs columns [] d = d
after_signs columns (s ∷ signs) d = after_signs columns signs (after_sign columns s d)
