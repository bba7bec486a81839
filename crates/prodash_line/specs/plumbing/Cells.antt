-- A row of cells, with the cursor at a column.
use Rattle.std.specs.Prelude.{ℕ, List}
use Rattle.prodash_line.specs.CellRows.{CellRow}
use Rattle.prodash_line.specs.declared.render.line.page.cell.Cell.{Cell}

abbrev pub at_column : List Cell → ℕ → CellRow
at_column cells column = record { cells = cells; column = column }
