use Rattle.std.proofs.Common.{◌≡◌, ◌-◌, ◌≤◌, ◌++◌}
use Rattle.prodash_base.specs.Appending.{IsPrefix}
use Rattle.prodash_tui.specs.Frames.{changes_of, row_cursor, row_signs}
use Rattle.prodash_tui.specs.Signs.{spelling}
use Rattle.prodash_tui.specs.plumbing.Appended.{changes_from}
use Rattle.prodash_tui.proofs.frame.push_row.Given as goal

abbrev pub invariant-loop-k : goal.invariant-loop-k
invariant-loop-k l = record {
  ok : l.out.items ++ spelling (row_signs l.y (changes_from l.k l.old l.new) l.cursor) ≡ l.fn.out.items ++ spelling (row_signs l.y (changes_of l.old l.new) l.fn.cursor);
  cursor : row_cursor l.y (changes_from l.k l.old l.new) l.cursor ≡ row_cursor l.y (changes_of l.old l.new) l.fn.cursor;
  kept : IsPrefix l.fn.out.items l.out.items;
  within : l.k ≤ l.end;
}

abbrev pub decreases-loop-k : goal.decreases-loop-k
decreases-loop-k l = l.end - l.k
