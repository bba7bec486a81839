use Rattle.std.proofs.Common.{◌≡◌, ◌-◌}
use Rattle.prodash_tui.specs.Cells.{on_background}
use Rattle.prodash_tui.specs.Rows.{in_part}
use Rattle.prodash_tui.proofs.row.color_cells.Given as goal

abbrev pub invariant-loop-k : goal.invariant-loop-k
invariant-loop-k l = l.cells.items ≡ in_part l.first (l.k - l.first) (on_background l.color) l.fn.cells.items
