use Rattle.std.proofs.Common.{rules}
use Rattle.prodash_core.proofs.StepsOfTasks.{both_end, row_alone, entry_alone}
use Rattle.prodash_core.proofs.tree.table.end_alike.Goals as goal

pub returns-in-Some-Some : goal.returns-in-Some-Some
returns-in-Some-Some g c =
    both_end c.args.tasks.now.entries c.args.rows.now _ c.in-Some-Some.row.now c.in-Some-Some.ensures.last (search rules) c.eq.result c.eq.ensures

pub returns-in_default : goal.returns-in_default
returns-in_default g c = (
  λ h. absurd (search rules),
  λ same. absurd (row_alone c.args.tasks.now.entries c.args.rows.now c.in_default.field-0-1.now (search rules) (search rules) same),
)

pub returns-in_default-2 : goal.returns-in_default-2
returns-in_default-2 g c = (
  λ h. absurd (search rules),
  λ same. absurd (entry_alone c.args.tasks.now.entries c.args.rows.now _ c.in_default.ensures.last (search rules) same),
)
