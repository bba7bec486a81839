use Rattle.std.proofs.Common.{subst}
use Rattle.std.specs.Prelude.{OnOk}
use Rattle.prodash_base.specs.ThroughputMessages.{done_message}
use Rattle.prodash_core.proofs.traits.boxed.BoxedProgressProgress.show_throughput_with.Goals as goal

pub returns-clause-ok : goal.returns-clause-ok
returns-clause-ok g c =
    subst (λ d. OnOk c.show_throughput_with.result ((goal.Progress-dyn g d).Progress.was_sent d.1 c.args.now c.args.level (done_message c.args.unit c.args.step c.args.start c.args.now)))
    c.deref_box-1.ensures.1 c.show_throughput_with.ensures.0
