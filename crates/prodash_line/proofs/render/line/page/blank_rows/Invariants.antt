use Rattle.std.proofs.Common.{◌≡◌, ◌-◌, ◌++◌, length, take, drop, replicate}
use Rattle.std.specs.List.{All}
use Rattle.prodash_line.specs.CellRows.{blank_cells}
use Rattle.prodash_line.proofs.render.line.page.blank_rows.Given as goal

abbrev pub invariant-loop-row : goal.invariant-loop-row
invariant-loop-row l =
    let old = l.fn.rows.items in record {
      rows : l.rows.items ≡ take l.first old ++ (replicate (l.row - l.first) (blank_cells l.columns) ++ drop l.row old);
      width : All (λ row. length row ≡ l.columns) l.rows.items;
    }
