use Rattle.std.proofs.Common.{refl}
use Rattle.prodash.proofs.ViewTurns.{looks_news}
use Rattle.prodash.proofs.tree.recorded.view.RecordedView.copy_new_messages.Goals as goal

pub returns-clause-ok : goal.returns-clause-ok
returns-clause-ok g c = looks_news _ _ _ _ _ _ _ c.in_ok-messages.ensures.ok c.into_vec.ensures refl
