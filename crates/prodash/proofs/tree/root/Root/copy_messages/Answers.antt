use Rattle.prodash.proofs.TurnLaws.{finds_on_ok}
use Rattle.prodash.proofs.tree.root.Root.copy_messages.Goals as goal

pub returns-clause-ok : goal.returns-clause-ok
returns-clause-ok g c = finds_on_ok _ _ _ _ _ _ c.copy_messages.ensures.turn
