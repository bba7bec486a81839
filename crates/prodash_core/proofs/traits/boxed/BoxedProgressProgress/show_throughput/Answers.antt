use Rattle.std.proofs.Common.{subst}
use Rattle.std.specs.Prelude.{OnOk, ℕ, Option}
use Rattle.prodash_base.specs.ThroughputMessages.{done_message}
use Rattle.prodash_base.specs.declared.messages.MessageLevel.TheVariants.{Info}
use Rattle.prodash_core.proofs.traits.boxed.BoxedProgressProgress.show_throughput.Goals as goal

pub returns-clause-ok : goal.returns-clause-ok
returns-clause-ok g c =
    subst (λ d. OnOk c.show_throughput.result ((step : ℕ) × (unit : Option _) × (goal.Progress-dyn g d).Count.shows d.1 step × (goal.Progress-dyn g d).Progress.has_unit d.1 unit × (goal.Progress-dyn g d).Progress.was_sent d.1 c.args.now Info (done_message unit step c.args.start c.args.now)))
    c.deref_box-1.ensures.1 c.show_throughput.ensures.0
