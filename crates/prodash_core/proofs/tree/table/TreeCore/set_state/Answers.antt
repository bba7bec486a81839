use Rattle.std.proofs.Common.{rules, ◌∙◌, ap}
use Rattle.prodash_base.specs.Rows.{phase_of}
use Rattle.prodash_core.specs.Tables.{with_phase}
use Rattle.prodash_core.proofs.TableChanges.{table_of, change_at-none, change_at-some}
use Rattle.prodash_core.proofs.tree.table.TreeCore.set_state.Goals as goal
use Rattle.prodash_core.proofs.tree.table.TreeCore.set_state.Goals.{in-Some, in_default}

pub returns : goal.returns
returns g c =
    let es = c.self.inside.tasks.entries in
    let change = with_phase (phase_of c.args.state) in
    rw (← c.self.view_is) (elim c.match-get_mut.branch [
      | in-Some w ↦ ap (λ t. table_of t.tasks.entries) w.self-inside-is
          ∙ change_at-some es _ c.args.key change w.in-Some.task.now w.set_state.new.task w.in-Some.ensures.value w.set_state.ensures
          ((c.get_mut.follows.holds w.set_state.new.task).3 (search (rules, w.in-Some.ensures.value))).0
      | in_default w ↦ ap (λ t. table_of t.tasks.entries) w.self-inside-is ∙ ap (λ t. table_of t.entries) c.get_mut.follows.holds-at-none
          ∙ change_at-none es c.args.key change w.in_default.ensures.value
    ])
