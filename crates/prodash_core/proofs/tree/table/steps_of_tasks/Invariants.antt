use Rattle.std.proofs.Common.{◌≡◌, ◌+◌, ◌≤◌, drop, length, map}
use Rattle.std.specs.Prelude.{vec_capacity}
use Rattle.prodash_base.specs.Rows.{rows_of}
use Rattle.prodash_core.specs.Tables.{pair_of}
use Rattle.prodash_core.proofs.StepsOfTasks.{StepsRest}
use Rattle.prodash_core.proofs.tree.table.steps_of_tasks.Given as goal

abbrev pub invariant-loop-key : goal.invariant-loop-key
invariant-loop-key g l =
    StepsRest (g.N.Counters.shows l.counters) (map pair_of l.tasks.entries) (rows_of l.rows) l.steps.items (map pair_of l.key-iterator) (rows_of (drop (length l.steps.items) l.rows))
    × (length l.steps.items + length l.key-iterator ≡ length l.rows)
    × (length l.rows ≤ vec_capacity l.steps)
