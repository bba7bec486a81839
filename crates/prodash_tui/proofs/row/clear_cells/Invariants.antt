use Rattle.std.proofs.Common.{◌≡◌, ◌++◌, drop}
use Rattle.prodash_tui.specs.Cells.{blank_cells}
use Rattle.prodash_tui.proofs.row.clear_cells.Given as goal

abbrev pub invariant-loop-k : goal.invariant-loop-k
invariant-loop-k l = l.cells ≡ blank_cells l.k ++ drop l.k l.fn.cells
