use Rattle.std.proofs.Common.{ap, Ok, None}
use Rattle.prodash_base.specs.Rows.{rows_of}
use Rattle.prodash_base.specs.Steps.{with_steps}
use Rattle.std.proofs.lemmas.Option.{IfSome_then}
use Rattle.prodash_core.proofs.StepsOfTasks.{same_ok}
use Rattle.prodash_core.proofs.TableRows.{rows_in_order, shown_in_order}
use Rattle.prodash_core.proofs.tree.table.TreeCore.steps_over.Goals as goal

pub returns-clause-shows : goal.returns-clause-shows
returns-clause-shows g c =
    rw (← c.self.view_is, ← c.as_slice.ensures) (IfSome_then c.in_ok-steps.steps c.in_ok-steps.ensures.some (λ steps z.
    (rows_in_order (g.N.Counters.shows c.args.counters.now) c.self.inside.tasks.entries (with_steps steps.items (rows_of c.as_slice.result.now)) z c.in_ok-steps.ensures.ordered).0))

pub returns-clause-each : goal.returns-clause-each
returns-clause-each g c =
    rw (← c.self.view_is, ← c.as_slice.ensures) (IfSome_then c.in_ok-steps.steps c.in_ok-steps.ensures.some (λ steps z.
    (rows_in_order (g.N.Counters.shows c.args.counters.now) c.self.inside.tasks.entries (with_steps steps.items (rows_of c.as_slice.result.now)) z c.in_ok-steps.ensures.ordered).1))

pub returns-clause-none : goal.returns-clause-none
returns-clause-none g c =
    rw (← c.self.view_is, ← c.as_slice.ensures) (λ is steps z.
    c.in_ok-steps.ensures.none (ap Ok (same_ok c.in_ok-steps.steps None is)) steps
    (shown_in_order (g.N.Counters.shows c.args.counters.now) c.self.inside.tasks.entries (with_steps steps (rows_of c.as_slice.result.now)) z c.in_ok-steps.ensures.ordered))
