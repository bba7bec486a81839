use Rattle.std.proofs.Common.{◌≡◌, ◌++◌, drop}
use Rattle.prodash_base.specs.Rows.{rows_of}
use Rattle.prodash_base.specs.Trackers.{observe_rows, throughputs_of}
use Rattle.prodash_tui.proofs.dashboard.tracker.observe_rows.Given as goal

abbrev pub invariant-loop-row : goal.invariant-loop-row
invariant-loop-row l = record {
  rates : l.rates.items ++ throughputs_of l.tracker.pending (rows_of (drop l.row-index l.rows))
      ≡ l.fn.rates.items ++ throughputs_of l.fn.tracker.pending (rows_of l.rows);
  pending : observe_rows l.tracker.pending (rows_of (drop l.row-index l.rows)) ≡ observe_rows l.fn.tracker.pending (rows_of l.rows);
  kept : l.tracker.kept ≡ l.fn.tracker.kept;
}
