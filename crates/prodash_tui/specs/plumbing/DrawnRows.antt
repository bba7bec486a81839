-- The fields of a row that remembers the calls that drew it.
use Rattle.std.specs.Prelude.{◌≡◌, ℕ, ◌^◌, ◌<◌, ◌≤◌, true, List, length, take, if◌then◌else◌}
use Rattle.prodash_tui.specs.declared.cell.Cell.{Cell}
use Rattle.prodash_tui.specs.declared.drawn_row.DrawnRow.TheInside.{Inside}
use Rattle.prodash_tui.specs.Cells.{blank_cells}
use Rattle.prodash_tui.specs.plumbing.Calls.{AreWithin, Drawing, played}

-- the cells of a row that these calls draw
abbrev pub drawn_cells : ℕ → List Drawing → List Cell
drawn_cells width calls = played calls (blank_cells width)

-- the cells that contracts see: those that the calls draw that were made again
abbrev pub shown : Inside → List Cell
shown r = if r.is_remembered then drawn_cells (length r.cells) (take r.same r.calls) else r.cells

-- the calls draw in its columns, some of them were made again, and all of them draw its cells if they are remembered
pub record IsDrawn (r : Inside) : Type 0 where
  pub narrow : length r.cells < 2 ^ 16
  pub within : AreWithin (length r.cells) r.calls
  pub same : r.same ≤ length r.calls
  pub drawn : r.is_remembered ≡ true → r.cells ≡ drawn_cells (length r.cells) r.calls
