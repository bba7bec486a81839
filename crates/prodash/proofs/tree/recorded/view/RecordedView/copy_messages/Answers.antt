use Rattle.prodash.proofs.ViewTurns.{looks_messages}
use Rattle.prodash.proofs.tree.recorded.view.RecordedView.copy_messages.Goals as goal

pub returns-clause-ok : goal.returns-clause-ok
returns-clause-ok g c = looks_messages _ _ _ _ _ c.in_ok-messages.ensures.ok c.into_vec.ensures
