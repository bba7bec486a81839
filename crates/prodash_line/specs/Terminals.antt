-- The page of a terminal, for any widths of characters: all rows ever, of which the last are the window, and a cursor.
use Rattle.std.specs.Prelude.{◌≡◌, ◌<◌, zero, suc, false, nat_le, ℕ, ◌+◌, ◌-◌, min, max, Bool, true, false, ◌&&◌, List, [], ◌∷◌, ◌++◌, length, map, ⊤, take, replicate, slice_index_or, slice_set, nat_lt, if◌then◌else◌}
use Rattle.std.specs.List.{AllByRecursion}
use Rattle.prodash_line.specs.declared.render.line.page.sign.Sign.{Sign}
use Rattle.prodash_line.specs.declared.render.line.page.sign.Sign.TheVariants.{Char, LineFeed, CarriageReturn, Up, EraseLine, EraseBelow, HideCursor, ShowCursor, NoWrap, Wrap, BeginUpdate, EndUpdate, Open, Reset}
use Rattle.prodash_line.specs.CellRows.{CellRow, blank_cells, torn, put}
use Rattle.prodash_line.specs.declared.render.line.page.cell.Cell.{Cell}
use Rattle.prodash_line.specs.declared.render.line.page.cell.Cell.TheVariants.{Holds}
use Rattle.prodash_line.specs.Page.{Canvas, page_after}

-- how many columns it has, the height of its window, its rows from the first ever on, the row and column of the cursor, and whether a character
-- past the last column goes to the next row
pub record Terminal : Type 0 where
  pub width : ℕ
  pub height : ℕ
  pub rows : List (List Cell)
  pub row : ℕ
  pub column : ℕ
  pub wraps : Bool

-- row n of all rows is this one
abbrev pub IsRow : List (List Cell) → ℕ → List Cell → Type 0
IsRow rows n row = (n < length rows) × (row ≡ slice_index_or rows n [])

-- a page of blank rows, with the cursor at its beginning
abbrev pub blank_terminal : ℕ → ℕ → Terminal
blank_terminal width height = record { width = width; height = height; rows = replicate height (blank_cells width); row = 0; column = 0; wraps = true }

-- the rows, with a blank one below the last if this row isn't there
abbrev pub with_cells : ℕ → ℕ → List (List Cell) → List (List Cell)
with_cells width row rows = if nat_lt row (length rows) then rows else rows ++ blank_cells width ∷ []

-- the cursor at the beginning of the next row
abbrev pub next_line : Terminal → Terminal
next_line t = record t { rows = with_cells t.width (t.row + 1) t.rows; row = t.row + 1; column = 0 }

-- the cursor's row
abbrev pub cursor_row : Terminal → CellRow
cursor_row t = record { cells = slice_index_or t.rows t.row []; column = t.column }

-- the page with this as the cursor's row
abbrev pub with_cursor_row : CellRow → Terminal → Terminal
with_cursor_row row t = record t { rows = slice_set t.rows t.row row.cells; column = row.column }

-- does a character of so many columns go to the next row? if it doesn't fit, and characters wrap
abbrev pub goes_on : ℕ → Terminal → Bool
goes_on columns t = t.wraps && nat_lt t.width (t.column + min columns 2)

-- a character of so many columns in the cursor's row
abbrev pub put_in : ℕ → ℕ → Terminal → Terminal
put_in columns c t = with_cursor_row (put columns t.width c (cursor_row t)) t

-- a character of so many columns: in the cursor's row, or in the next one
abbrev pub put_char : ℕ → ℕ → Terminal → Terminal
put_char columns c t = put_in columns c (if goes_on columns t then next_line t else t)

-- cells that are blank from this column on
abbrev pub blank_after : ℕ → ℕ → List Cell → List Cell
blank_after width column cells = take column (torn column cells) ++ blank_cells (width - column)

-- the first n rows, and then blank ones
abbrev pub blank_rows_from : ℕ → ℕ → List (List Cell) → List (List Cell)
blank_rows_from width n rows = take n rows ++ replicate (length rows - n) (blank_cells width)

-- the page blank below the cursor's row
abbrev pub blank_rows_below : Terminal → Terminal
blank_rows_below t = record t { rows = blank_rows_from t.width (t.row + 1) t.rows }

-- The page after one sign, on a terminal that gives characters so many columns. The cursor goes up no further than the window's top. Styles,
-- whether the cursor is hidden, and where an update begins and ends change no cell.
abbrev pub terminal_after_sign : (ℕ → ℕ) → Sign → Terminal → Terminal
terminal_after_sign columns (Char c) t = put_char (columns c) c t
terminal_after_sign columns LineFeed t = next_line t
terminal_after_sign columns CarriageReturn t = record t { column = 0 }
terminal_after_sign columns (Up n) t = record t { row = max (length t.rows - t.height) (t.row - n) }
terminal_after_sign columns EraseLine t = record t { rows = slice_set t.rows t.row (blank_cells t.width) }
terminal_after_sign columns EraseBelow t =
    blank_rows_below (record t { rows = slice_set t.rows t.row (blank_after t.width t.column (slice_index_or t.rows t.row [])) })
terminal_after_sign columns HideCursor t = t
terminal_after_sign columns ShowCursor t = t
terminal_after_sign columns NoWrap t = record t { wraps = false }
terminal_after_sign columns Wrap t = record t { wraps = true }
terminal_after_sign columns BeginUpdate t = t
terminal_after_sign columns EndUpdate t = t
terminal_after_sign columns (Open style) t = t
terminal_after_sign columns Reset t = t

-- is the cursor in the last row of all?
abbrev pub adds_line : Terminal → Bool
adds_line t = nat_le (length t.rows) (t.row + 1)

-- does a character of so many columns need memory? if it joins another one, or goes to a row that isn't there yet
abbrev pub adds_char : ℕ → Terminal → Bool
adds_char zero t = nat_lt 0 t.column
adds_char (suc n) t = goes_on (suc n) t && adds_line t

-- does a sign? a character may, and so may a line feed
abbrev pub needs_memory : (ℕ → ℕ) → Sign → Terminal → Bool
needs_memory columns (Char c) t = adds_char (columns c) t
needs_memory columns LineFeed t = adds_line t
needs_memory columns _ t = false

-- the page after these signs
abbrev pub terminal_after : (ℕ → ℕ) → List Sign → Terminal → Terminal
terminal_after columns [] t = t
terminal_after columns (s ∷ ss) t = terminal_after columns ss (terminal_after_sign columns s t)

-- a page of characters, with each in a cell
abbrev pub in_cells : Canvas → Terminal
in_cells p = record {
  width = p.columns;
  height = p.height;
  rows = map (λ row. map (λ c. Holds c []) row) p.rows;
  row = p.row;
  column = p.column;
  wraps = p.wraps;
}

-- a character of one column, or another sign
abbrev pub HasOneColumn : (ℕ → ℕ) → Sign → Type 0
HasOneColumn columns (Char c) = columns c ≡ 1
HasOneColumn columns _ = ⊤

-- A page of cells and a page of characters agree: signs of which each character has one column make of the page in cells what they make of the
-- page.
abbrev pub PagesAgree : (ℕ → ℕ) → Type 0
PagesAgree columns = (ss : List Sign) (page : Canvas) → AllByRecursion (HasOneColumn columns) ss
    → terminal_after columns ss (in_cells page) ≡ in_cells (page_after ss page)
