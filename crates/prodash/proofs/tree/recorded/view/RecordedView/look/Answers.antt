use Rattle.prodash.proofs.ViewTurns.{looks_at_all}
use Rattle.prodash.proofs.tree.recorded.view.RecordedView.look.Goals as goal

pub returns-clause-ok : goal.returns-clause-ok
returns-clause-ok g c = looks_at_all _ _ _ _ _ _ c.in_ok-shown.ensures.ok
