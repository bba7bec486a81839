use Rattle.prodash_core.proofs.Boxes.{becomes}
use Rattle.prodash_core.proofs.traits.boxed.BoxedProgressProgress.init.Goals as goal

pub returns : goal.returns
returns g c =
    becomes c.args.self.now c.deref_box_mut-1.result.now
    (λ i v w. (goal.Progress-dyn g (i, v)).Progress.begins v c.args.max c.args.unit w)
    _ c.deref_box_mut-1.ensures.value.1 c.init.ensures
