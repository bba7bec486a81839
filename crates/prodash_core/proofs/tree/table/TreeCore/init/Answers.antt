use Rattle.std.proofs.Common.{rules, ◌∙◌, ap, sym, is_some}
use Rattle.std.specs.Option.{option_map}
use Rattle.prodash_core.specs.Tables.{counted_of, with_progress}
use Rattle.prodash_core.proofs.TableChanges.{table_of, is_some-table_of, change_at-none, change_at-some}
use Rattle.prodash_core.proofs.tree.table.TreeCore.init.Goals as goal
use Rattle.prodash_core.proofs.tree.table.TreeCore.init.Goals.{in-None, in-Some}

pub returns-clause-found : goal.returns-clause-found
returns-clause-found g c =
    let es = c.self.inside.tasks.entries in
    rw (← c.self.view_is) (elim c.match-get_mut.branch [
      | in-None w ↦ w.result-is ∙ ap is_some w.in-None.ensures.value ∙ sym (is_some-table_of es c.args.key)
      | in-Some w ↦ w.result-is ∙ ap is_some w.in-Some.ensures.value ∙ sym (is_some-table_of es c.args.key)
    ])

pub returns-clause-after : goal.returns-clause-after
returns-clause-after g c =
    let es = c.self.inside.tasks.entries in
    rw (← c.self.view_is) (elim c.match-get_mut.branch [
      | in-None w ↦ ap (λ t. table_of t.tasks.entries) w.self-inside-is ∙ ap (λ t. table_of t.entries) c.get_mut.follows.holds-at-none
          ∙ change_at-none es c.args.key (with_progress (option_map counted_of c.args.progress)) w.in-None.ensures.value
      | in-Some w ↦ ap (λ t. table_of t.tasks.entries) w.self-inside-is
          ∙ change_at-some es _ c.args.key (with_progress (option_map counted_of c.args.progress)) w.in-Some.task.now
          w.set_progress.new.task w.in-Some.ensures.value w.set_progress.ensures
          ((c.get_mut.follows.holds w.set_progress.new.task).3 (search (rules, w.in-Some.ensures.value))).0
    ])
