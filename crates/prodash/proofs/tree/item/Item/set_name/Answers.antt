use Rattle.prodash.proofs.TurnLaws.{changes_on_ok, stays_on_err}
use Rattle.prodash.proofs.tree.item.Item.set_name.Goals as goal

pub returns-clause-ok : goal.returns-clause-ok
returns-clause-ok g c = rw (← c.self.view_is) (changes_on_ok _ _ _ _ _ _ c.set_name.ensures.turn)

pub returns-clause-err : goal.returns-clause-err
returns-clause-err g c = stays_on_err _ _ _ _ _ _ c.set_name.ensures.turn
