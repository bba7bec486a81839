use Rattle.std.proofs.Common.{◌≡◌, ◌++◌}
use Rattle.prodash_core.specs.plumbing.MissingNames.{missing_names}
use Rattle.prodash_core.proofs.tree.table.missing_names.Given as goal

abbrev pub invariant-loop-task : goal.invariant-loop-task
invariant-loop-task g l = l.names.items ++ missing_names l.task-iterator l.left ≡ missing_names l.tasks.entries l.rows
