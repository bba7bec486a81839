use Rattle.std.proofs.Common.{rules}
use Rattle.prodash_core.proofs.MissingNames.{missing_pushed, missing_same, missing_past, missing_all}
use Rattle.prodash_core.proofs.tree.table.missing_names.Goals as goal

pub loop-task-preserved-in_ok-push_back-in-Some-split_first : goal.loop-task-preserved-in_ok-push_back-in-Some-split_first
loop-task-preserved-in_ok-push_back-in-Some-split_first g c =
    let split = c.in-Some-split_first in
    missing_pushed c.loop-task.names.items c.push_back.new.self.items _ c.loop-task.task-iterator c.loop-task.left.now c.loop-task.invariant (c.in-Some.field-0-0.now, c.in-Some.task.now) c.next.new.self (search rules) split.row.now split.rest.now (search rules)
    (search rules) (search rules)

pub loop-task-preserved-else-ne : goal.loop-task-preserved-else-ne
loop-task-preserved-else-ne g c =
    let split = c.in-Some-split_first in
    missing_same c.loop-task.names.items _ c.loop-task.task-iterator c.loop-task.left.now c.loop-task.invariant (c.in-Some.field-0-0.now, c.in-Some.task.now) c.next.new.self (search rules) split.row.now split.rest.now (search rules) (search rules)

pub loop-task-preserved : goal.loop-task-preserved
loop-task-preserved g c =
    missing_past c.loop-task.names.items c.push_back-in-None-split_first.new.self.items _ c.loop-task.task-iterator c.loop-task.left.now c.loop-task.invariant (c.in-Some.field-0-0.now, c.in-Some.task.now) c.next.new.self (search rules) (search rules) (search rules)

pub returns : goal.returns
returns g c = missing_all c.loop-task.names.items _ c.loop-task.task-iterator c.loop-task.left.now c.loop-task.invariant (search rules)
