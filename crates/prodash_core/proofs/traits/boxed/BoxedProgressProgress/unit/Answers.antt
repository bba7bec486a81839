use Rattle.std.proofs.Common.{subst}
use Rattle.prodash_core.proofs.traits.boxed.BoxedProgressProgress.unit.Goals as goal

pub returns : goal.returns
returns g c =
    subst (λ d. (goal.Progress-dyn g d).Progress.has_unit d.1 c.unit.result)
    c.deref_box-1.ensures.1 c.unit.ensures
