use Rattle.prodash.proofs.TurnLaws.{finds}
use Rattle.prodash.proofs.tree.root.Root.messages_capacity.Goals as goal

pub returns : goal.returns
returns g c = finds _ _ _ _ _ c.messages_capacity.ensures
