use Rattle.std.proofs.Common.{map}
use Rattle.prodash_core.specs.Tables.{pair_of}
use Rattle.prodash_core.proofs.RowsOfTasks.{ShowsRestAt}
use Rattle.prodash_core.proofs.tree.table.rows_of_tasks.Given as goal

abbrev pub invariant-loop-key : goal.invariant-loop-key
invariant-loop-key g l = ShowsRestAt (g.N.Counters.shows l.counters) (map pair_of l.tasks.entries) l.rows.items l.updated (map pair_of l.key-iterator)
