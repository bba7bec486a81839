-- The columns of a row that are known to be blank.
use Rattle.std.specs.Prelude.{◌≡◌, ℕ, ◌<◌, ◌≤◌, ◌⊎◌, List, length}
use Rattle.prodash_tui.specs.declared.cell.Cell.{Cell}
use Rattle.prodash_tui.specs.declared.grid_row.Span.{Span}
use Rattle.prodash_tui.specs.Cells.{blank_cell, cell_at}
use Rattle.prodash_tui.specs.plumbing.Appended.{changes_from}

-- the columns are some of a row's, and have blank cells
pub record IsBlankPart (span : Span) (cells : List Cell) : Type 0 where
  pub order : span.first ≤ span.last
  pub within : span.last ≤ length cells
  pub blank : (k : ℕ) → span.first ≤ k → k < span.last → cell_at cells k ≡ blank_cell

-- each of the columns is before column x, or not before column `end`
abbrev pub IsApart : ℕ → ℕ → Span → Type 0
IsApart x end span = (k : ℕ) → span.first ≤ k → k < span.last → (k < x) ⊎ (end ≤ k)

-- the columns are before column `end`, and no change from one row to another is in them
pub record IsSameWithin (end : ℕ) (span : Span) (old new : List Cell) : Type 0 where
  pub order : span.first ≤ span.last
  pub within : span.last ≤ end
  pub same : changes_from span.first old new ≡ changes_from span.last old new
