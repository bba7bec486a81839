use Rattle.std.proofs.Common.{◌≡◌, ◌-◌, ◌≤◌, length}
use Rattle.std.specs.List.{All}
use Rattle.prodash_tui.specs.Cells.{on_background}
use Rattle.prodash_tui.specs.Rows.{in_part}
use Rattle.prodash_tui.proofs.grid.color_rows.Given as goal

abbrev pub invariant-loop-k : goal.invariant-loop-k
invariant-loop-k l = record {
  rows : l.rows.items ≡ in_part l.first (l.k - l.first) (in_part l.x (l.end - l.x) (on_background l.color)) l.fn.rows.items;
  end : All (λ row. l.end ≤ length row) l.rows.items;
}
