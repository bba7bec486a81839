use Rattle.std.proofs.Common.{◌≡◌, ◌*◌, ◌≤◌, take}
use Rattle.prodash_base.specs.Rows.{rows_of}
use Rattle.prodash_tui.specs.ProgressPanes.{total_share}
use Rattle.prodash_tui.proofs.draw.progress.hidden.total_share.Given as goal

abbrev pub invariant-loop-row : goal.invariant-loop-row
invariant-loop-row l = record {
  value : l.total ≡ total_share (rows_of (take l.row-index l.rows));
  within : l.total ≤ l.row-index * 1000000;
}
