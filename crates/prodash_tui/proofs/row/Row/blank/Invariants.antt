use Rattle.std.proofs.Common.{◌≡◌}
use Rattle.prodash_tui.specs.Cells.{blank_cells}
use Rattle.prodash_tui.proofs.row.Row.blank.Given as goal

abbrev pub invariant-loop : goal.invariant-loop
invariant-loop l = l.cells.items ≡ blank_cells l.counter
