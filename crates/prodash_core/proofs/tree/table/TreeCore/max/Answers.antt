use Rattle.std.proofs.Common.{◌∙◌, ap, Some, None}
use Rattle.prodash_core.specs.Tables.{bound_of, entry_of}
use Rattle.prodash_core.proofs.TableChanges.{get_task}
use Rattle.prodash_core.proofs.tree.table.TreeCore.max.Goals as goal

pub returns-in-None : goal.returns-in-None
returns-in-None g c =
    let es = c.self.inside.tasks.entries in
    rw (← c.self.view_is) (ap bound_of (get_task es c.args.key None c.in-None.ensures.value))

pub returns-in-Some : goal.returns-in-Some
returns-in-Some g c =
    let es = c.self.inside.tasks.entries in
    rw (← c.self.view_is) (c.max.ensures ∙ ap (λ t. bound_of (Some (entry_of t))) c.deref.ensures ∙ ap bound_of (get_task es c.args.key (Some c.in-Some.task.now) c.in-Some.ensures.value))
