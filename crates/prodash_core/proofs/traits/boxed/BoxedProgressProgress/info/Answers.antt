use Rattle.std.proofs.Common.{subst}
use Rattle.std.specs.Prelude.{OnOk}
use Rattle.prodash_base.specs.declared.messages.MessageLevel.TheVariants.{Info}
use Rattle.prodash_core.proofs.traits.boxed.BoxedProgressProgress.info.Goals as goal

pub returns-clause-ok : goal.returns-clause-ok
returns-clause-ok g c =
    subst (λ d. OnOk c.info.result ((goal.Progress-dyn g d).Progress.was_sent d.1 c.args.at Info c.args.message.now))
    c.deref_box-1.ensures.1 c.info.ensures.0
