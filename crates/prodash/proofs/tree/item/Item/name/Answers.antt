use Rattle.prodash.proofs.TurnLaws.{finds_if_ok}
use Rattle.prodash.proofs.tree.item.Item.name.Goals as goal

pub returns-clause-ok : goal.returns-clause-ok
returns-clause-ok g c = rw (← c.self.view_is) (finds_if_ok _ _ _ _ _ _ c.name.ensures.turn)
