use Rattle.prodash.proofs.TurnLaws.{changes}
use Rattle.prodash.proofs.tree.item.Item.init.Goals as goal

pub returns : goal.returns
returns g c = rw (← c.self.view_is) (changes _ _ _ _ _ c.init.ensures)
