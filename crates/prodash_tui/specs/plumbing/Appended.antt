-- What is appended for a part of a grid.
use Rattle.std.specs.Prelude.{◌≡◌, ℕ, ◌+◌, ◌^◌, ◌<◌, Bool, true, false, List, [], ◌∷◌, ◌++◌, length, drop, map, Option, Some, None, Result, OnOk, if◌then◌else◌}
use Rattle.std.specs.List.{All}
use Rattle.prodash_tui.specs.declared.cell.Cell.{Cell}
use Rattle.prodash_tui.specs.declared.cell.Cell.TheVariants.{Half}
use Rattle.prodash_tui.specs.declared.cursor.Cursor.{Cursor}
use Rattle.prodash_tui.specs.declared.sign.Sign.{Sign}
use Rattle.prodash_tui.specs.declared.sign.Sign.TheVariants.{EraseScreen, SetStyle}
use Rattle.prodash_tui.specs.declared.style.Style.{Style}
use Rattle.prodash_tui.specs.Cells.{blank_cells, plain, same_cell}
use Rattle.prodash_tui.specs.Differences.{half_of, row_changes}
use Rattle.prodash_tui.specs.Frames.{are_certain, change_signs, changes_of, clearing, cursor_behind, row_cursor, row_signs, rows_signs}
use Rattle.prodash_tui.specs.Signs.{spelling}

-- do cells begin with a character that has two of them?
abbrev pub begins_wide : List Cell → Bool
begins_wide (a ∷ Half ∷ cells) = true
begins_wide _ = false

-- do cells begin with a character that every terminal shows in one column, and that none has joined?
abbrev pub begins_certain : List Cell → Bool
begins_certain [] = false
begins_certain (a ∷ cells) = are_certain (a ∷ half_of cells)

-- the cursor behind that character, in this style
abbrev pub known_behind : ℕ → ℕ → List Cell → Style → Option Cursor
known_behind row column cells style = if begins_certain cells then Some (record { row = row; column = column + 1; style = style }) else None

-- what blanks the cells of the character that cells begin with
abbrev pub clearing_at : ℕ → ℕ → List Cell → List Sign
clearing_at row column [] = []
clearing_at row column (a ∷ cells) = clearing row column (a ∷ half_of cells)

-- the signs of the character that cells begin with, if the cell before was another
abbrev pub signs_at : ℕ → ℕ → Cell → List Cell → Option Cursor → List Sign
signs_at row column old [] cursor = []
signs_at row column old (a ∷ cells) cursor = if same_cell old a then [] else change_signs row column (a ∷ half_of cells) cursor

-- the cursor behind them
abbrev pub cursor_past : ℕ → ℕ → Cell → List Cell → Option Cursor → Option Cursor
cursor_past row column old [] cursor = cursor
cursor_past row column old (a ∷ cells) cursor = if same_cell old a then cursor else cursor_behind row column (a ∷ half_of cells) cursor

-- the signs of what is new in a row
abbrev pub signs_of_row : ℕ → List Cell → List Cell → Option Cursor → List Sign
signs_of_row row old new cursor = row_signs row (changes_of old new) cursor

-- the cursor behind them
abbrev pub cursor_past_row : ℕ → List Cell → List Cell → Option Cursor → Option Cursor
cursor_past_row row old new cursor = row_cursor row (changes_of old new) cursor

-- the changes of a row from column k on
abbrev pub changes_from : ℕ → List Cell → List Cell → List (ℕ × List Cell)
changes_from k old new = row_changes same_cell k (drop k old) (drop k new)

-- as many blank cells as these
abbrev pub blank_like : List Cell → List Cell
blank_like cells = blank_cells (length cells)

-- the signs of what isn't blank in a row
abbrev pub signs_over_blank : ℕ → List Cell → Option Cursor → List Sign
signs_over_blank row new cursor = signs_of_row row (blank_like new) new cursor

-- the cursor behind them
abbrev pub cursor_over_blank : ℕ → List Cell → Option Cursor → Option Cursor
cursor_over_blank row new cursor = cursor_past_row row (blank_like new) new cursor

-- the signs of what isn't blank in rows
abbrev pub all_over_blank : List (List Cell) → List Sign
all_over_blank new = rows_signs 0 (map blank_like new) new None

-- what erases a display, and then these signs
abbrev pub first_signs : List (List Cell) → List Sign
first_signs new = SetStyle plain ∷ EraseScreen ∷ all_over_blank new

-- the bytes of these signs are appended, unless the call was refused
abbrev pub Spells : {V E : Type 0} → Result V E → List ℕ → List Sign → List ℕ → Type 0
Spells result before signs after = OnOk result (after ≡ before ++ spelling signs)

-- rows that a `u16` counts the columns of, and the rows of which it counts
pub record AreCounted (rows : List (List Cell)) : Type 0 where
  pub low : length rows < 2 ^ 16
  pub narrow : All (λ row. length row < 2 ^ 16) rows
