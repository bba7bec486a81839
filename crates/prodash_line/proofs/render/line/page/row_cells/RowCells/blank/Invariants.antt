use Rattle.std.proofs.Common.{◌≡◌}
use Rattle.prodash_line.specs.CellRows.{blank_cells}
use Rattle.prodash_line.proofs.render.line.page.row_cells.RowCells.blank.Given as goal

abbrev pub invariant-loop : goal.invariant-loop
invariant-loop l = l.cells.items ≡ blank_cells l.counter
