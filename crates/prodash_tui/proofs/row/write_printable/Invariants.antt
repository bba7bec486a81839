use Rattle.std.proofs.Common.{◌≡◌, ◌+◌, ◌++◌, drop, map, take}
use Rattle.prodash_tui.specs.Cells.{cell_of}
use Rattle.prodash_tui.proofs.row.write_printable.Given as goal

abbrev pub invariant-loop-k : goal.invariant-loop-k
invariant-loop-k l = l.cells.items ≡ take l.x l.fn.cells.items ++ (map (cell_of l.style) (take l.k l.text) ++ drop (l.x + l.k) l.fn.cells.items)
