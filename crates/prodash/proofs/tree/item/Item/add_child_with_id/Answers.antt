use Rattle.prodash.proofs.TurnLaws.{changes}
use Rattle.prodash.proofs.tree.item.Item.add_child_with_id.Goals as goal

pub returns-clause-added : goal.returns-clause-added
returns-clause-added g c = rw (← c.self.view_is) (changes _ _ _ _ _ c.in_ok-task.ensures.added)
