use Rattle.std.proofs.Common.{◌≡◌, ◌-◌, ◌≤◌, length}
use Rattle.std.specs.List.{All}
use Rattle.prodash_tui.specs.Grids.{in_rows}
use Rattle.prodash_tui.specs.Rows.{splice}
use Rattle.prodash_tui.specs.Texts.{filling}
use Rattle.prodash_tui.proofs.grid.fill_rows.Given as goal

abbrev pub invariant-loop-k : goal.invariant-loop-k
invariant-loop-k l = record {
  rows : l.rows.items ≡ in_rows l.first (l.k - l.first) (splice l.x (filling l.style (l.end - l.x) l.c)) l.fn.rows.items;
  end : All (λ row. l.end ≤ length row) l.rows.items;
}
