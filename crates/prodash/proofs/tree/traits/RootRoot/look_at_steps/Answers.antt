use Rattle.prodash.proofs.TurnLaws.{finds_steps}
use Rattle.prodash.proofs.tree.traits.RootRoot.look_at_steps.Goals as goal

pub returns-clause-ok : goal.returns-clause-ok
returns-clause-ok g c = finds_steps _ _ _ _ c.look_at_steps.ensures.ok
