use Rattle.prodash.proofs.TurnLaws.{finds}
use Rattle.prodash.proofs.tree.root.Root.num_tasks.Goals as goal

pub returns : goal.returns
returns g c = finds _ _ _ _ _ c.num_tasks.ensures
