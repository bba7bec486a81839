-- What has changed between two grids, and rows that are drawn anew by it.
use Rattle.std.specs.Prelude.{◌≡◌, ℕ, ◌+◌, ◌≤◌, Bool, true, ◌||◌, List, [], ◌∷◌, length, if◌then◌else◌}
use Rattle.std.specs.List.{All, AllByRecursion}
use Rattle.prodash_line.specs.CellRows.{char_columns}
use Rattle.prodash_core.specs.declared.render.tui.event.Rect.{Rect}
use Rattle.prodash_tui.specs.declared.cell.Cell.{Cell}
use Rattle.prodash_tui.specs.declared.cell.Cell.TheVariants.{Holds, Half}
use Rattle.prodash_tui.specs.Cells.{is_half}
use Rattle.prodash_tui.specs.Rows.{splice}
use Rattle.prodash_tui.specs.Grids.{IsSheet, Sheet}

-- a row as a terminal shows it that gives characters so many columns: each character has as many cells, one or two, and none joins it that has a column
abbrev pub IsProper : (ℕ → ℕ) → List Cell → Type 0
IsProper columns [] = Unit {0}
IsProper columns (Half ∷ cells) = ⊥
IsProper columns (Holds c joined style ∷ Half ∷ cells) = (2 ≤ columns c) × AllByRecursion (λ d. columns d ≡ 0) joined × IsProper columns cells
IsProper columns (Holds c joined style ∷ cells) = (columns c ≡ 1) × AllByRecursion (λ d. columns d ≡ 0) joined × IsProper columns cells

-- a test of cells that tells different ones apart
abbrev pub TellsApart : (Cell → Cell → Bool) → Type 0
TellsApart same = (a b : Cell) → same a b ≡ true → a ≡ b

-- the second half of a character, if it is the first of these cells
abbrev pub half_of : List Cell → List Cell
half_of (Half ∷ cells) = Half ∷ []
half_of _ = []

-- the characters of a row that aren't those of the row before, each with its column, from this column on
abbrev pub row_changes : (Cell → Cell → Bool) → ℕ → List Cell → List Cell → List (ℕ × List Cell)
row_changes same x (a ∷ old) (b ∷ new) =
    if same a b || is_half b then row_changes same (x + 1) old new else (x, b ∷ half_of new) ∷ row_changes same (x + 1) old new
row_changes same x _ _ = []

-- a row with these characters written into it, one after another
abbrev pub redrawn : List (ℕ × List Cell) → List Cell → List Cell
redrawn [] row = row
redrawn (c ∷ changes) row = redrawn changes (splice c.0 c.1 row)

-- a grid of rows that are proper on a terminal that gives characters so many columns
pub record IsProperSheet (columns : ℕ → ℕ) (g : Sheet) : Type 0 where
  pub sheet : IsSheet g
  pub proper : All (IsProper columns) g.rows

-- a way to draw in a rectangle that leaves proper rows, by the columns that `unicode_width` gives
abbrev pub KeepsProper : (Rect → Sheet → Sheet) → Type 0
KeepsProper draw = (area : Rect) (g : Sheet) → IsProperSheet char_columns g → IsProperSheet char_columns (draw area g)

-- proper rows into which the characters are written that differ in others of their length are those others, for any columns of characters
abbrev pub AreRedrawn : (Cell → Cell → Bool) → Type 0
AreRedrawn same =
    (columns : ℕ → ℕ) (old new : List Cell) → IsProper columns old → IsProper columns new → length old ≡ length new → redrawn (row_changes same 0 old new) old ≡ new
