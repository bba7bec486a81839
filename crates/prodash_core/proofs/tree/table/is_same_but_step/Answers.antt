use Rattle.std.proofs.Common.{◌≡◌, ◌∙◌, ◌&&◌, ap, sym}
use Rattle.std.specs.Option.{option_eq}
use Rattle.prodash_base.specs.contracts.unit.units.UnitPartialEq.TheImpl as unit
use Rattle.prodash_core.proofs.StepsOfTasks.{same_bound_and_unit, same_by_state, not_same}
use Rattle.prodash_core.proofs.tree.table.is_same_but_step.Goals.{then-eq, else-eq}
use Rattle.prodash_core.proofs.tree.table.is_same_but_step.Goals as goal

pub returns-then-eq-2 : goal.returns-then-eq-2
returns-then-eq-2 g c =
    let units = option_eq unit.ghosts.eq c.args.counted.now.unit c.args.value.now.unit in
    let tested : c.if-eq.value ≡ same_bound_and_unit c.args.counted.now c.args.value.now = elim c.if-eq.branch [
      | then-eq w ↦ w.value-is ∙ w.eq-then-eq.ensures ∙ ap (λ b. b && units) (sym w.if-eq.true ∙ c.eq.ensures)
      | else-eq w ↦ w.value-is ∙ w.if-eq.false ∙ ap (λ b. b && units) (sym w.if-eq.false ∙ c.eq.ensures)
    ] in
    same_by_state c.args.counted.now c.args.value.now c.if-eq.value tested c.if-eq-2.true c.are_same_states.result c.are_same_states.ensures

pub returns-else-eq-2 : goal.returns-else-eq-2
returns-else-eq-2 g c =
    let units = option_eq unit.ghosts.eq c.args.counted.now.unit c.args.value.now.unit in
    let tested : c.if-eq.value ≡ same_bound_and_unit c.args.counted.now c.args.value.now = elim c.if-eq.branch [
      | then-eq w ↦ w.value-is ∙ w.eq-then-eq.ensures ∙ ap (λ b. b && units) (sym w.if-eq.true ∙ c.eq.ensures)
      | else-eq w ↦ w.value-is ∙ w.if-eq.false ∙ ap (λ b. b && units) (sym w.if-eq.false ∙ c.eq.ensures)
    ] in
    not_same c.args.counted.now c.args.value.now c.if-eq.value tested c.if-eq-2.false
