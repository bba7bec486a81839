-- Rows of cells on a terminal, for any widths of characters: what writing characters of no, one or two columns into them leaves.
use Rattle.std.specs.Prelude.{ℕ, zero, suc, ◌+◌, ◌-◌, min, Bool, true, false, List, [], ◌∷◌, ◌++◌, replicate, slice_index_or, slice_set, nat_lt, if◌then◌else◌, Option, Some, None}
use Rattle.unicode_width.specs.Width.{char_width}
use Rattle.prodash_line.specs.declared.render.line.page.cell.Cell.{Cell}
use Rattle.prodash_line.specs.declared.render.line.page.cell.Cell.TheVariants.{Holds, Half}

-- a blank cell is a space
abbrev pub blank_cell : Cell
blank_cell = Holds 32 []

-- so many blank cells
abbrev pub blank_cells : ℕ → List Cell
blank_cells n = replicate n blank_cell

-- the cells of a row, and the column of the cursor in it; past the last cell it is the number of cells
pub record CellRow : Type 0 where
  pub cells : List Cell
  pub column : ℕ

-- a blank row of this width
abbrev pub blank_row : ℕ → CellRow
blank_row width = record { cells = blank_cells width; column = 0 }

-- the test of a second half
abbrev pub is_half : Cell → Bool
is_half (Holds c joined) = false
is_half Half = true

-- the cell in place k, a blank one if there is none
abbrev pub cell_at : List Cell → ℕ → Cell
cell_at cells k = slice_index_or cells k blank_cell

-- the cells with a blank one in place n, if the one in place k is a second half
abbrev pub blank_if_half : ℕ → ℕ → List Cell → List Cell
blank_if_half k n cells = if is_half (cell_at cells k) then slice_set cells n blank_cell else cells

-- the cells with blanks for what is torn where cell k is written: the first half before it, and the second half behind it
abbrev pub torn : ℕ → List Cell → List Cell
torn k cells = blank_if_half (k + 1) (k + 1) (blank_if_half k (k - 1) cells)

-- the cells with this one in place k
abbrev pub write : ℕ → Cell → List Cell → List Cell
write k cell cells = slice_set (torn k cells) k cell

-- a character joins the one in a cell
abbrev pub joined_by : ℕ → Cell → Cell
joined_by c (Holds d joined) = Holds d (joined ++ c ∷ [])
joined_by c Half = Half

-- where the character of cell k is
abbrev pub first_half : List Cell → ℕ → ℕ
first_half cells k = if is_half (cell_at cells k) then k - 1 else k

-- a character joins the one before this column, if there is one
abbrev pub join : ℕ → List Cell → ℕ → List Cell
join c cells zero = cells
join c cells (suc k) = let n = first_half cells k in slice_set cells n (joined_by c (cell_at cells n))

-- A character of so many columns, in a row of this width: one of no column joins the one before it. Past the last cell, one of one column
-- replaces that cell, and a wide one without room blanks it.
abbrev pub put : ℕ → ℕ → ℕ → CellRow → CellRow
put zero width c row = record row { cells = join c row.cells row.column }
put (suc zero) width c row = let k = min row.column (width - 1) in record { cells = write k (Holds c []) row.cells; column = k + 1 }
put (suc (suc n)) width c row =
    if nat_lt width (row.column + 2)
    then record { cells = write (width - 1) blank_cell row.cells; column = width }
    else record { cells = write (row.column + 1) Half (write row.column (Holds c []) row.cells); column = row.column + 2 }

-- the row after these characters, none of which goes to the next row
abbrev pub typed : (ℕ → ℕ) → ℕ → List ℕ → CellRow → CellRow
typed columns width [] row = row
typed columns width (c ∷ text) row = typed columns width text (put (columns c) width c row)

-- what a text leaves in a blank row
abbrev pub played : (ℕ → ℕ) → ℕ → List ℕ → List Cell
played columns width text = (typed columns width text (blank_row width)).cells

-- the rows that a text leaves from this row on, if characters that have no room go to the next row, and the rows below are blank
abbrev pub wrapped_from : (ℕ → ℕ) → ℕ → List ℕ → CellRow → List (List Cell)
wrapped_from columns width [] row = row.cells ∷ []
wrapped_from columns width (c ∷ text) row =
    if nat_lt width (row.column + min (columns c) 2)
    then row.cells ∷ wrapped_from columns width text (put (columns c) width c (blank_row width))
    else wrapped_from columns width text (put (columns c) width c row)

-- the rows that it leaves from a blank row on
abbrev pub wrapped : (ℕ → ℕ) → ℕ → List ℕ → List (List Cell)
wrapped columns width text = wrapped_from columns width text (blank_row width)

-- how many columns a text has
abbrev pub text_columns : (ℕ → ℕ) → List ℕ → ℕ
text_columns columns [] = 0
text_columns columns (c ∷ text) = min (columns c) 2 + text_columns columns text

-- this many columns, or none
abbrev pub or_none : Option ℕ → ℕ
or_none None = 0
or_none (Some n) = n

-- the columns of a character by itself, as the renderer counts them; a control character has none
abbrev pub char_columns : ℕ → ℕ
char_columns c = or_none (char_width false c)

-- a character of so many columns, before those that join the one before them: it joins it too if it has no column
abbrev pub joined_with : ℕ → ℕ → List ℕ → List ℕ
joined_with zero c joined = c ∷ joined
joined_with (suc n) c joined = []

-- the characters of no column that a text begins with
abbrev pub joined : (ℕ → ℕ) → List ℕ → List ℕ
joined columns [] = []
joined columns (c ∷ text) = joined_with (columns c) c (joined columns text)

-- a character of so many columns, with those that join it, before these cells
abbrev pub cells_with : ℕ → ℕ → List ℕ → List Cell → List Cell
cells_with zero c joined cells = cells
cells_with (suc zero) c joined cells = Holds c joined ∷ cells
cells_with (suc (suc n)) c joined cells = Holds c joined ∷ Half ∷ cells

-- each character of a text in its cells, with those of no column behind it
abbrev pub shown : (ℕ → ℕ) → List ℕ → List Cell
shown columns [] = []
shown columns (c ∷ text) = cells_with (columns c) c (joined columns text) (shown columns text)
