use Rattle.std.proofs.Common.{rules, ◌∙◌, ap}
use Rattle.prodash_core.specs.Tables.{with_name}
use Rattle.prodash_core.proofs.TableChanges.{table_of, change_at-none, change_at-some}
use Rattle.prodash_core.proofs.tree.table.TreeCore.set_name.Goals as goal
use Rattle.prodash_core.proofs.tree.table.TreeCore.set_name.Goals.{in-Some, in_default+in-Long-1, in_default+in-Short-1}

pub returns-clause-ok : goal.returns-clause-ok
returns-clause-ok g c =
    let es = c.self.inside.tasks.entries in
    rw (← c.self.view_is, ← c.in_ok-name.ensures.bytes) (elim c.match-get_mut.branch [
      | in-Some w ↦ ap (λ t. table_of t.tasks.entries) w.self-inside-is
          ∙ change_at-some es _ c.args.key (with_name c.in_ok-name.name) w.in-Some.task.now w.set_name.new.task w.in-Some.ensures.value w.set_name.ensures
          ((c.get_mut.follows.holds w.set_name.new.task).3 (search (rules, w.in-Some.ensures.value))).0
      | in_default+in-Long-1 w ↦ ap (λ t. table_of t.tasks.entries) w.self-inside-is ∙ ap (λ t. table_of t.entries) c.get_mut.follows.holds-at-none
          ∙ change_at-none es c.args.key (with_name c.in_ok-name.name) w.in_default.ensures.value
      | in_default+in-Short-1 w ↦ ap (λ t. table_of t.tasks.entries) w.self-inside-is ∙ ap (λ t. table_of t.entries) c.get_mut.follows.holds-at-none
          ∙ change_at-none es c.args.key (with_name c.in_ok-name.name) w.in_default.ensures.value
    ])
