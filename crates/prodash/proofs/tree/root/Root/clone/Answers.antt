use Rattle.prodash.proofs.TurnLaws.{changes, takes_less}
use Rattle.prodash.proofs.tree.root.Root.clone.Goals as goal

pub returns-clause-ok : goal.returns-clause-ok
returns-clause-ok g c =
    changes _ _ _ _ _ (takes_less _ _ _ _ _ (λ old new h. h.0) c.in_ok-rt.ensures.turn)
