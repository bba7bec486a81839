use Rattle.std.proofs.Common.{Option, subst}
use Rattle.prodash_base.specs.declared.timing.task_time.TaskTime.{TaskTime}
use Rattle.prodash_line.specs.plumbing.RowWriting.{ShowsTime}
use Rattle.prodash_line.proofs.render.line.draw.row_time.push_timed.Goals as goal

pub returns : goal.returns
returns c = subst (λ (time : Option TaskTime). ShowsTime c.args.options.now time c.args.out.now c.push_task_time.new.out) c.row_time-time.ensures c.in_ok-push_task_time.ensures
