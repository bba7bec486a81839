use Rattle.std.proofs.Common.{◌≡◌, ◌+◌, ◌≤◌, length}
use Rattle.prodash_base.specs.Rows.{rows_of}
use Rattle.prodash_tui.specs.Headlines.{how_many, is_group, runs}
use Rattle.prodash_tui.proofs.draw.headline.count_tasks.Given as goal

-- what is counted so far and in the rows that are left is what all rows have, and there are no more than rows
abbrev pub invariant-loop-row : goal.invariant-loop-row
invariant-loop-row l = record {
  running : l.running + how_many runs (rows_of l.left) ≡ how_many runs (rows_of l.rows);
  groups : l.groups + how_many is_group (rows_of l.left) ≡ how_many is_group (rows_of l.rows);
  few : l.running + l.groups + length l.left ≤ length l.rows;
}

abbrev pub decreases-loop-row : goal.decreases-loop-row
decreases-loop-row l = length l.left
