use Rattle.std.proofs.Common.{◌≡◌, replicate}
use Rattle.prodash_tui.specs.Cells.{blank_cells}
use Rattle.prodash_tui.proofs.grid.Grid.new.Given as goal

abbrev pub invariant-loop : goal.invariant-loop
invariant-loop l = l.rows.items ≡ replicate l.counter (blank_cells l.width)
