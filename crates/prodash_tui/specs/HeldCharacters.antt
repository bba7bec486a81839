-- Which characters cells, rows and grids hold, and that frames write none into another row.
use Rattle.std.specs.Prelude.{◌≡◌, ℕ, ◌+◌, Bool, true, false, List, [], ◌∷◌}
use Rattle.std.specs.List.{AllByRecursion}
use Rattle.prodash_tui.specs.declared.cell.Cell.{Cell}
use Rattle.prodash_tui.specs.declared.cell.Cell.TheVariants.{Holds, Half}
use Rattle.prodash_tui.specs.Displays.{Display, after_signs}
use Rattle.prodash_tui.specs.Frames.{HaveOneSize, difference, first_frame}
use Rattle.prodash_tui.specs.Grids.{IsSheet, Sheet}

-- a cell whose characters are all such ones
abbrev pub CellHolds : (ℕ → Type 0) → Cell → Type 0
CellHolds IsSuch (Holds c joined style) = IsSuch c × AllByRecursion IsSuch joined
CellHolds IsSuch Half = Unit {0}

-- a row of such cells
abbrev pub RowHolds : (ℕ → Type 0) → List Cell → Type 0
RowHolds IsSuch row = AllByRecursion (CellHolds IsSuch) row

-- rows whose characters are such ones of each row, of which the first is this one
abbrev pub RowsHold : (ℕ → ℕ → Type 0) → ℕ → List (List Cell) → Type 0
RowsHold IsSuch y [] = Unit {0}
RowsHold IsSuch y (row ∷ rows) = RowHolds (IsSuch y) row × RowsHold IsSuch (y + 1) rows

-- a grid of the size of a display that doesn't wrap
pub record AreDrawn (d : Display) (after : Sheet) : Type 0 where
  pub unwrapped : d.wraps ≡ false
  pub size : HaveOneSize d.grid after
  pub sheet : IsSheet after

-- a character that a test of rows and characters takes for one of this row
abbrev pub IsOf : (ℕ → ℕ → Bool) → ℕ → ℕ → Type 0
IsOf test y c = test y c ≡ true

-- a test that takes a space for a character of each row
abbrev pub TakesSpaces : (ℕ → ℕ → Bool) → Type 0
TakesSpaces test = (y : ℕ) → IsOf test y 32

-- a frame by difference writes into each row only characters of that row of its grid, and spaces: a display whose rows had only such characters still has
abbrev pub KeepsToRows : (ℕ → ℕ) → Type 0
KeepsToRows columns = (test : ℕ → ℕ → Bool) (d : Display) (before after : Sheet) → TakesSpaces test → AreDrawn d after
    → RowsHold (IsOf test) 0 d.grid.rows → RowsHold (IsOf test) 0 after.rows → RowsHold (IsOf test) 0 (after_signs columns (difference before after) d).grid.rows

-- after a frame that is written whole, each row has only characters of that row of its grid, and spaces, whatever it had before
abbrev pub ShowsOwnRows : (ℕ → ℕ) → Type 0
ShowsOwnRows columns = (test : ℕ → ℕ → Bool) (d : Display) (after : Sheet) → TakesSpaces test → AreDrawn d after
    → RowsHold (IsOf test) 0 after.rows → RowsHold (IsOf test) 0 (after_signs columns (first_frame after) d).grid.rows
