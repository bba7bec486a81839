use Rattle.std.proofs.Common.{◌∙◌}
use Rattle.prodash_core.proofs.TableChanges.{table_of-copies}
use Rattle.prodash_core.proofs.tree.table.TreeCoreClone.clone.Goals as goal

pub returns : goal.returns
returns g c = record { cases = table_of-copies c.self.inside.tasks.entries c.in_ok-tasks.tasks.entries c.in_ok-tasks.ensures.cases ∙ c.self.view_is }
