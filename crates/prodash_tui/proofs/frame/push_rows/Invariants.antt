use Rattle.std.proofs.Common.{◌≡◌, ◌++◌, drop, None}
use Rattle.prodash_base.specs.Appending.{IsPrefix}
use Rattle.prodash_tui.specs.Frames.{rows_signs}
use Rattle.prodash_tui.specs.Signs.{spelling}
use Rattle.prodash_tui.proofs.frame.push_rows.Given as goal

abbrev pub invariant-loop-y : goal.invariant-loop-y
invariant-loop-y l = record {
  ok : l.out.items ++ spelling (rows_signs l.y (drop l.y l.fn.old) (drop l.y l.fn.new) l.cursor) ≡ l.fn.out.items ++ spelling (rows_signs 0 l.fn.old l.fn.new None);
  before : l.old ≡ l.fn.old;
  after : l.new ≡ l.fn.new;
  kept : IsPrefix l.fn.out.items l.out.items;
}
