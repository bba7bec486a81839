use Rattle.std.proofs.Common.{rules, map, take, ap}
use Rattle.prodash_base.specs.Rows.{rows_of}
use Rattle.prodash_core.specs.Tables.{pair_of}
use Rattle.prodash_core.proofs.RowsOfTasks.{shows_replaced, shows_pushed, shows_all}
use Rattle.prodash_core.proofs.tree.table.rows_of_tasks.Goals.{then-updated-len+in_ok-update_row, else-updated-len+in_ok-row_of_task+in_ok-push}
use Rattle.prodash_core.proofs.tree.table.rows_of_tasks.Goals as goal

pub loop-key-preserved : goal.loop-key-preserved
loop-key-preserved g c =
    let shows = g.N.Counters.shows c.args.counters.now in
    let row = pair_of (c.in-Some.key.now, c.in-Some.task.now) in
    let left = map pair_of c.next.new.self in
    elim c.if-updated-len.branch [
      | then-updated-len+in_ok-update_row w ↦
          shows_replaced shows _ c.loop-key.rows.items c.loop-key.updated (map pair_of c.loop-key.key-iterator) c.loop-key.invariant row left (search rules) w.update_row.new.row (rw c.as_ref-task.ensures at w.in_ok-update_row.ensures)
          (search rules) c.if-updated-len.rows.items (ap (λ v. v.items) w.rows-is)
      | else-updated-len+in_ok-row_of_task+in_ok-push w ↦
          shows_pushed shows _ c.loop-key.rows.items c.loop-key.updated (map pair_of c.loop-key.key-iterator) c.loop-key.invariant row left (search rules) w.in_ok-row_of_task.field-0 (rw c.as_ref-task.ensures at w.in_ok-row_of_task.ensures)
          (search rules) c.if-updated-len.rows.items (search rules)
    ]

pub returns-clause-rows : goal.returns-clause-rows
returns-clause-rows g c =
    let shows = g.N.Counters.shows c.args.counters.now in
    rw c.truncate.ensures.items (shows_all shows (map pair_of c.args.tasks.now.entries) (rows_of (take c.loop-key.updated c.loop-key.rows.items)) (map pair_of c.loop-key.key-iterator) c.loop-key.invariant.1 (search rules))
