use Rattle.std.proofs.Common.{◌+◌, ◌≤◌, length}
use Rattle.std.specs.Prelude.{vec_capacity}
use Rattle.prodash_core.proofs.MissingNames.{Puts}
use Rattle.prodash_core.proofs.tree.table.put_rows.Given as goal

abbrev pub invariant-loop-key : goal.invariant-loop-key
invariant-loop-key g l =
    Puts (g.N.Counters.shows l.counters) l.tasks.entries l.rows.items l.put l.key-iterator l.names.items
    × (l.put + length l.key-iterator ≤ vec_capacity l.rows)
