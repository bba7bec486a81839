use Rattle.std.proofs.Common.{◌∙◌, ap, List, ℕ, None}
use Rattle.std.specs.FinMap as finite
use Rattle.prodash_core.specs.Tables.{entry_of}
use Rattle.prodash_core.proofs.TableChanges.{table_of, table_of-update}
use Rattle.prodash_core.proofs.tree.table.TreeCore.insert.Goals as goal

pub returns-clause-ok : goal.returns-clause-ok
returns-clause-ok g c =
    let old = c.self.inside.tasks.entries in
    let new = c.insert.new.self.entries in
    table_of-update old new c.args.key c.in_ok-task.task
    c.in_ok-insert.ensures.updates.0
    ∙ ap (λ t. finite.insert (table_of old) c.args.key (entry_of t)) c.in_ok-task.ensures.ok
    ∙ ap (λ (name : List ℕ). finite.insert (table_of old) c.args.key (record { name = name; id = c.args.id; progress = None })) c.in_ok-name.ensures.bytes
    ∙ ap (λ m. finite.insert m c.args.key (record { name = c.args.name.now; id = c.args.id; progress = None })) c.self.view_is
