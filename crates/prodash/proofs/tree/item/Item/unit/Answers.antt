use Rattle.prodash.proofs.TurnLaws.{finds}
use Rattle.prodash.proofs.tree.item.Item.unit.Goals as goal

pub returns : goal.returns
returns g c = rw (← c.self.view_is) (finds _ _ _ _ _ c.unit.ensures)
