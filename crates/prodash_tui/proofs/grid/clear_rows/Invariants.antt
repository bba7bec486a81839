use Rattle.std.proofs.Common.{◌≡◌, ◌++◌, length, drop, replicate}
use Rattle.std.specs.List.{All}
use Rattle.prodash_tui.specs.Cells.{blank_cells}
use Rattle.prodash_tui.proofs.grid.clear_rows.Given as goal

abbrev pub invariant-loop-k : goal.invariant-loop-k
invariant-loop-k l = record {
  rows : l.rows.items ≡ replicate l.k (blank_cells l.width) ++ drop l.k l.fn.rows.items;
  width : All (λ row. length row ≡ l.width) l.rows.items;
}
