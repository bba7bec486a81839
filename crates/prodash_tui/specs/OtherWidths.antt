-- What a display shows that gives characters other columns than `unicode_width` counts.
use Rattle.std.specs.Prelude.{◌≡◌, ◌↔◌, ◌⊎◌, ℕ, ◌+◌, Bool, true, false, List, [], ◌∷◌, length, None}
use Rattle.prodash_line.specs.CellRows.{char_columns}
use Rattle.prodash_tui.specs.declared.cell.Cell.{Cell}
use Rattle.prodash_tui.specs.declared.cell.Cell.TheVariants.{Holds, Half}
use Rattle.prodash_tui.specs.declared.dashboard.contents.Contents.{Contents}
use Rattle.prodash_tui.specs.BoardRuns.{HasToldSize, Run, Step, after_drawing, after_steps}
use Rattle.prodash_tui.specs.Boards.{next_grid}
use Rattle.prodash_tui.specs.Cells.{cell_at}
use Rattle.prodash_tui.specs.Differences.{IsProperSheet}
use Rattle.prodash_tui.specs.Displays.{Display, after_signs}
use Rattle.prodash_tui.specs.Frames.{HaveOneSize, difference, first_frame, is_certain}
use Rattle.prodash_tui.specs.Grids.{Sheet}
use Rattle.prodash_tui.specs.HeldCharacters.{IsOf, RowsHold, TakesSpaces}

-- columns that a terminal may give characters: none to exactly those that have none by `unicode_width`, and one to those that are certain
pub record AreWidths (columns : ℕ → ℕ) : Type 0 where
  pub joining : (c : ℕ) → (columns c ≡ 0) ↔ (char_columns c ≡ 0)
  pub certain : (c : ℕ) → is_certain c ≡ true → columns c ≡ 1

-- a cell that shows no character: a space, or a second half
abbrev pub IsBlank : Cell → Type 0
IsBlank (Holds c joined style) = (c ≡ 32) × (joined ≡ [])
IsBlank Half = Unit {0}

-- cells k and k + 1 are the last ones of a display's row, and have the last character of the grid's row, a wide one on the display, which leaves it too little
-- room at its own column
pub record IsAtEdge (row cells : List Cell) (k : ℕ) : Type 0 where
  pub last : k + 2 ≡ length row
  pub wide : cell_at row (k + 1) ≡ Half
  pub same : cell_at row k ≡ cell_at cells (k + 1)

-- cell k of a display's row shows no character but the grid's: it shows none, it is the cell of the grid, or it is the last one, moved to the left
abbrev pub ShowsOwn : List Cell → List Cell → ℕ → Type 0
ShowsOwn row cells k = IsBlank (cell_at row k) ⊎ ((cell_at row k ≡ cell_at cells k) ⊎ IsAtEdge row cells k)

-- a row of a display stands for one of a grid: it has as many cells, and none shows a character but the grid's
pub record Stands (row cells : List Cell) : Type 0 where
  pub size : length row ≡ length cells
  pub each : (k : ℕ) → ShowsOwn row cells k

-- rows of a display stand for those of a grid, each for the one in its place
abbrev pub RowsStand : List (List Cell) → List (List Cell) → Type 0
RowsStand [] [] = Unit {0}
RowsStand (row ∷ rows) (cells ∷ others) = Stands row cells × RowsStand rows others
RowsStand _ _ = ⊥

-- a display that doesn't wrap, and whose rows stand for those of a proper grid of its size
pub record StandsFor (d : Display) (g : Sheet) : Type 0 where
  pub unwrapped : d.wraps ≡ false
  pub size : HaveOneSize d.grid g
  pub proper : IsProperSheet char_columns g
  pub rows : RowsStand d.grid.rows g.rows

-- each row of a grid has only characters of that row of another one, and spaces: every test of rows and characters that takes these takes those
abbrev pub HasOnly : Sheet → Sheet → Type 0
HasOnly shown g = (test : ℕ → ℕ → Bool) → TakesSpaces test → RowsHold (IsOf test) 0 g.rows → RowsHold (IsOf test) 0 shown.rows

-- a display whose rows stand for those of a grid shows in each only characters of that row of the grid, and spaces
abbrev pub ShowsOnly : Type 0
ShowsOnly = (d : Display) (g : Sheet) → StandsFor d g → HasOnly d.grid g

-- the rows of a display that stand for those of a grid stand for those of another one of its size after the difference
abbrev pub StandsNext : (ℕ → ℕ) → Type 0
StandsNext columns = (d : Display) (before after : Sheet) → StandsFor d before → HaveOneSize before after → IsProperSheet char_columns after
    → StandsFor (after_signs columns (difference before after) d) after

-- after a frame that is written whole they stand for those of its grid, whatever the display showed
abbrev pub StandsFirst : (ℕ → ℕ) → Type 0
StandsFirst columns = (d : Display) (after : Sheet) → d.wraps ≡ false → HaveOneSize d.grid after → IsProperSheet char_columns after
    → StandsFor (after_signs columns (first_frame after) d) after

-- after any steps of a dashboard that has drawn no frame, and one frame more, each row of the display has only characters of that row of the grid of that
-- frame, and spaces, whatever it showed before
abbrev pub HasOnlyOwn : (ℕ → ℕ) → Type 0
HasOnlyOwn columns = (r : Run) (steps : List Step) (c : Contents) → r.board.screen ≡ None → HasToldSize r
    → HasOnly (after_drawing columns c (after_steps columns steps r)).display.grid (next_grid (after_steps columns steps r).board c)
