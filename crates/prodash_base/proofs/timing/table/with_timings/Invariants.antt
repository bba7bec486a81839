use Rattle.std.proofs.Common.{◌≡◌, [], drop}
use Rattle.prodash_base.specs.Rows.{rows_of}
use Rattle.prodash_base.specs.Timers.{with_timings}
use Rattle.prodash_base.specs.plumbing.TimedTables.{AreSorted}
use Rattle.prodash_base.proofs.timing.table.with_timings.Given as goal

abbrev pub invariant-loop-row : goal.invariant-loop-row
invariant-loop-row l = record {
  sorted : AreSorted l.timings.items;
  rest : with_timings l.before l.now l.timings.items (rows_of (drop l.row-index l.rows)) ≡ with_timings l.before l.now [] (rows_of l.rows);
}
