use Rattle.std.proofs.Common.{◌≡◌, ◌-◌, ◌++◌, take, drop}
use Rattle.prodash_line.specs.CellRows.{blank_cells, torn}
use Rattle.prodash_line.proofs.render.line.page.row_cells.RowCells.blank_from.Given as goal

abbrev pub invariant-loop-k : goal.invariant-loop-k
invariant-loop-k l =
    let cells = torn l.column l.fn.self in
    l.self-inside.cells.items ≡ take l.column cells ++ (blank_cells (l.k - l.column) ++ drop l.k cells)
