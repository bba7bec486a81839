use Rattle.std.proofs.Common.{rules}
use Rattle.prodash.proofs.TurnLaws.{upgrades}
use Rattle.prodash.proofs.tree.root.WeakHandle.upgrade.Goals as goal

pub returns-in-Some-clause-ok : goal.returns-in-Some-clause-ok
returns-in-Some-clause-ok g c = upgrades _ _ _ _ _ _ c.in_ok-rt.ensures.turn (search rules)

pub returns-in-None-clause-ok : goal.returns-in-None-clause-ok
returns-in-None-clause-ok g c = upgrades _ _ _ _ _ _ c.in_ok-rt.ensures.turn (search rules)
