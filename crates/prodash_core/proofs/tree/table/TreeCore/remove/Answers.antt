use Rattle.std.proofs.Common.{◌∙◌, ap, sym, is_some}
use Rattle.prodash_core.proofs.TableChanges.{is_some-table_of, table_of-remove, get_removed, get_others}
use Rattle.prodash_core.proofs.tree.table.TreeCore.remove.Goals as goal

pub returns-clause-found : goal.returns-clause-found
returns-clause-found g c =
    let es = c.self.inside.tasks.entries in
    rw (← c.self.view_is) (c.is_some.ensures ∙ ap is_some c.remove.ensures.value ∙ sym (is_some-table_of es c.args.key))

pub returns-clause-after : goal.returns-clause-after
returns-clause-after g c =
    let es = c.self.inside.tasks.entries in
    rw (← c.self.view_is) (table_of-remove es c.remove.new.self.entries c.args.key c.remove.ensures.updates.0)

pub returns-clause-removed : goal.returns-clause-removed
returns-clause-removed g c = get_removed _ _ _ (returns-clause-after g c)

pub returns-clause-others : goal.returns-clause-others
returns-clause-others g c = get_others _ _ _ (returns-clause-after g c)
