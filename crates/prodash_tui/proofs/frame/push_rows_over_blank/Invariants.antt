use Rattle.std.proofs.Common.{◌≡◌, ◌++◌, drop, map, None}
use Rattle.prodash_base.specs.Appending.{IsPrefix}
use Rattle.prodash_tui.specs.Frames.{rows_signs}
use Rattle.prodash_tui.specs.Signs.{spelling}
use Rattle.prodash_tui.specs.plumbing.Appended.{blank_like}
use Rattle.prodash_tui.proofs.frame.push_rows_over_blank.Given as goal

abbrev pub invariant-loop-y : goal.invariant-loop-y
invariant-loop-y l = record {
  ok : l.out.items ++ spelling (rows_signs l.y (drop l.y (map blank_like l.fn.new)) (drop l.y l.fn.new) l.cursor) ≡ l.fn.out.items ++ spelling (rows_signs 0 (map blank_like l.fn.new) l.fn.new None);
  after : l.new ≡ l.fn.new;
  kept : IsPrefix l.fn.out.items l.out.items;
}
