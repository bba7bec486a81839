use Rattle.std.proofs.Common.{rules, map, take, ap, refl, ◌∙◌}
use Rattle.prodash_base.specs.Rows.{rows_of}
use Rattle.prodash_core.specs.Tables.{pair_of}
use Rattle.prodash_core.proofs.RowsOfTasks.{shows_all}
use Rattle.prodash_core.proofs.MissingNames.{puts_within, puts_past, name_past}
use Rattle.prodash_core.proofs.tree.table.put_rows.Goals.{then-put-len, else-put-len+in-Some-pop_front, else-put-len+in_default}
use Rattle.prodash_core.proofs.tree.table.put_rows.Goals as goal

pub loop-key-preserved : goal.loop-key-preserved
loop-key-preserved g c =
    let shows = g.N.Counters.shows c.args.counters.now in
    let all = c.args.tasks.now.entries in
    let loop = c.loop-key in
    elim c.if-put-len.branch [
      | then-put-len w ↦ (
        puts_within shows all loop.rows.items loop.put loop.key-iterator loop.names.items loop.invariant.0 (c.in-Some.key.now, c.in-Some.task.now) c.next.new.self (search rules) (search rules)
            w.index_mut-row.result.now w.index_mut-row.ensures.value w.update_below_name.new.row c.if-put-len.names.items (λ more h.
            let fit = (rw c.as_ref-task.ensures at w.put_name.ensures) more h in
            (ap (λ v. v.items) w.names-is ∙ fit.0, (rw c.as_ref-task.ensures at w.update_below_name.ensures) fit.1))
            c.if-put-len.rows.items (ap (λ v. v.items) w.rows-is),
        search rules,
      )
      | else-put-len+in-Some-pop_front w ↦ (
        puts_past shows all loop.rows.items loop.put loop.key-iterator loop.names.items loop.invariant.0 (c.in-Some.key.now, c.in-Some.task.now) c.next.new.self (search rules) (search rules)
            _ w.in-Some-pop_front.name c.if-put-len.names.items (search rules) (λ e. record { path = refl; name = e; id = ap (λ t. t.id) c.as_ref-task.ensures; progress = rw c.as_ref-task.ensures at w.value_of.ensures }) c.if-put-len.rows.items (search rules),
        search rules,
      )
      | else-put-len+in_default w ↦ absurd (name_past shows all loop.rows.items loop.put loop.key-iterator loop.names.items loop.invariant.0 (c.in-Some.key.now, c.in-Some.task.now) c.next.new.self (search rules) (search rules) (search rules))
    ]

pub returns-clause-rows : goal.returns-clause-rows
returns-clause-rows g c =
    let shows = g.N.Counters.shows c.args.counters.now in
    rw c.truncate.ensures.items (shows_all shows (map pair_of c.args.tasks.now.entries) (rows_of (take c.loop-key.put c.loop-key.rows.items)) (map pair_of c.loop-key.key-iterator) c.loop-key.invariant.0.0.1 (search rules))
