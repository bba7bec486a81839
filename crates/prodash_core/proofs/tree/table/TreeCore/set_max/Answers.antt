use Rattle.std.proofs.Common.{rules, ◌∙◌, ap, Some, None}
use Rattle.prodash_core.specs.Tables.{with_bound, bound_of}
use Rattle.prodash_core.proofs.TableChanges.{table_of, get_task, change_at-none, change_at-some}
use Rattle.prodash_core.proofs.tree.table.TreeCore.set_max.Goals as goal
use Rattle.prodash_core.proofs.tree.table.TreeCore.set_max.Goals.{in-None, in-Some}

pub returns-clause-before : goal.returns-clause-before
returns-clause-before g c =
    let es = c.self.inside.tasks.entries in
    rw (← c.self.view_is) (elim c.match-get_mut.branch [
      | in-None w ↦ w.result-is ∙ ap bound_of (get_task es c.args.key None w.in-None.ensures.value)
      | in-Some w ↦ w.result-is ∙ w.set_max.ensures.before ∙ ap bound_of (get_task es c.args.key (Some w.in-Some.task.now) w.in-Some.ensures.value)
    ])

pub returns-clause-after : goal.returns-clause-after
returns-clause-after g c =
    let es = c.self.inside.tasks.entries in
    rw (← c.self.view_is) (elim c.match-get_mut.branch [
      | in-None w ↦ ap (λ t. table_of t.tasks.entries) w.self-inside-is ∙ ap (λ t. table_of t.entries) c.get_mut.follows.holds-at-none
          ∙ change_at-none es c.args.key (with_bound c.args.max) w.in-None.ensures.value
      | in-Some w ↦ ap (λ t. table_of t.tasks.entries) w.self-inside-is
          ∙ change_at-some es _ c.args.key (with_bound c.args.max) w.in-Some.task.now w.set_max.new.task w.in-Some.ensures.value w.set_max.ensures.after
          ((c.get_mut.follows.holds w.set_max.new.task).3 (search (rules, w.in-Some.ensures.value))).0
    ])
