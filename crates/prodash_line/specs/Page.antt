-- A page: all rows ever, of which the last are the window, and a cursor.
use Rattle.std.specs.Prelude.{Bool, true, false, ℕ, ◌+◌, ◌-◌, max, List, [], ◌∷◌, ◌++◌, length, take, replicate, slice_index_or, slice_set, nat_lt, if◌then◌else◌}
use Rattle.prodash_line.specs.declared.render.line.page.sign.Sign.{Sign}
use Rattle.prodash_line.specs.declared.render.line.page.sign.Sign.TheVariants.{Char, LineFeed, CarriageReturn, Up, EraseLine, EraseBelow, HideCursor, ShowCursor, NoWrap, Wrap, BeginUpdate, EndUpdate, Open, Reset}

-- how many columns it has, the height of its window, its rows from the first ever on, the row and column of the cursor, and whether a character
-- past the last column goes to the next row
pub record Canvas : Type 0 where
  pub columns : ℕ
  pub height : ℕ
  pub rows : List (List ℕ)
  pub row : ℕ
  pub column : ℕ
  pub wraps : Bool

-- a row of spaces
abbrev pub blank : ℕ → List ℕ
blank columns = replicate columns 32

-- a page of blank rows, with the cursor at its beginning
abbrev pub blank_page : ℕ → ℕ → Canvas
blank_page columns height = record { columns = columns; height = height; rows = replicate height (blank columns); row = 0; column = 0; wraps = true }

-- the rows, with a blank one below the last if this row isn't there
abbrev pub with_row : ℕ → ℕ → List (List ℕ) → List (List ℕ)
with_row columns row rows = if nat_lt row (length rows) then rows else rows ++ blank columns ∷ []

-- the cursor at the beginning of the next row
abbrev pub next_row : Canvas → Canvas
next_row p = record p { rows = with_row p.columns (p.row + 1) p.rows; row = p.row + 1; column = 0 }

-- the rows with this character in this cell
abbrev pub with_char : ℕ → ℕ → ℕ → List (List ℕ) → List (List ℕ)
with_char row column c rows = slice_set rows row (slice_set (slice_index_or rows row []) column c)

-- a character in the cursor's cell, and the cursor right of it
abbrev pub put_char : ℕ → Canvas → Canvas
put_char c p = record p { rows = with_char p.row p.column c p.rows; column = p.column + 1 }

-- a row that is blank from this column on
abbrev pub blank_row_from : ℕ → ℕ → List ℕ → List ℕ
blank_row_from columns column row = take column row ++ blank (columns - column)

-- the first n rows, and then blank ones
abbrev pub blank_below : ℕ → ℕ → List (List ℕ) → List (List ℕ)
blank_below columns n rows = take n rows ++ replicate (length rows - n) (blank columns)

-- the rows with this one blank from a column on
abbrev pub with_blank_from : ℕ → ℕ → ℕ → List (List ℕ) → List (List ℕ)
with_blank_from columns row column rows = slice_set rows row (blank_row_from columns column (slice_index_or rows row []))

-- a character past the last column: in the next row, or without wrapping in the last column
abbrev pub put_past : ℕ → Canvas → Canvas
put_past c p = put_char c (if p.wraps then next_row p else record p { column = p.columns - 1 })

-- The page after one sign: the cursor goes up no further than the window's top. Styles, whether the cursor is hidden, and where an update begins
-- and ends change no cell.
abbrev pub after_sign : Sign → Canvas → Canvas
after_sign (Char c) p = if nat_lt p.column p.columns then put_char c p else put_past c p
after_sign LineFeed p = next_row p
after_sign CarriageReturn p = record p { column = 0 }
after_sign (Up n) p = record p { row = max (length p.rows - p.height) (p.row - n) }
after_sign EraseLine p = record p { rows = slice_set p.rows p.row (blank p.columns) }
after_sign EraseBelow p = record p { rows = blank_below p.columns (p.row + 1) (with_blank_from p.columns p.row p.column p.rows) }
after_sign HideCursor p = p
after_sign ShowCursor p = p
after_sign NoWrap p = record p { wraps = false }
after_sign Wrap p = record p { wraps = true }
after_sign BeginUpdate p = p
after_sign EndUpdate p = p
after_sign (Open style) p = p
after_sign Reset p = p

-- the page after these signs
abbrev pub page_after : List Sign → Canvas → Canvas
page_after [] p = p
page_after (s ∷ ss) p = page_after ss (after_sign s p)
