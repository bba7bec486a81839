use Rattle.std.proofs.Common.{subst}
use Rattle.prodash_core.proofs.traits.boxed.BoxedProgressProgress.max.Goals as goal

pub returns : goal.returns
returns g c =
    subst (λ d. (goal.Progress-dyn g d).Progress.has_bound d.1 c.max.result)
    c.deref_box-1.ensures.1 c.max.ensures
