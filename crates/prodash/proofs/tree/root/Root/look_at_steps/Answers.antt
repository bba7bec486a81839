use Rattle.prodash.proofs.TurnLaws.{finds_if_ok}
use Rattle.prodash.proofs.tree.root.Root.look_at_steps.Goals as goal

pub returns-clause-ok : goal.returns-clause-ok
returns-clause-ok g c = finds_if_ok _ _ _ _ _ _ c.look_at_steps.ensures.turn
