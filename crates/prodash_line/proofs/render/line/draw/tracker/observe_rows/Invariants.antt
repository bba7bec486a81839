use Rattle.std.proofs.Common.{◌≡◌, drop}
use Rattle.prodash_base.specs.Rows.{rows_of}
use Rattle.prodash_line.specs.ProgressRows.{filtered}
use Rattle.prodash_line.specs.plumbing.Observing.{observe_all, ahead_of}
use Rattle.prodash_line.specs.Tracking.{kept_of}
use Rattle.prodash_line.proofs.render.line.draw.tracker.observe_rows.Given as goal

abbrev pub invariant-loop-row : goal.invariant-loop-row
invariant-loop-row l = record {
  ahead : observe_all (ahead_of l.tracker) (filtered l.levels (rows_of (drop l.row-index l.rows))) ≡ observe_all (ahead_of l.fn.tracker) (filtered l.levels (rows_of l.rows));
  kept : kept_of l.tracker ≡ kept_of l.fn.tracker;
}
