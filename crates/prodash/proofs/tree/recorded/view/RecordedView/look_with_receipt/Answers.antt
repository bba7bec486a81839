use Rattle.prodash.proofs.ViewTurns.{looks_as_seen, look_ascends}
use Rattle.prodash.proofs.tree.recorded.view.RecordedView.look_with_receipt.Goals as goal

pub returns-clause-ok : goal.returns-clause-ok
returns-clause-ok g c =
    looks_as_seen _ _ _ _ _ _ _ c.in_ok-seen.ensures.ok c.show_or_nothing-shown.ensures

pub returns-clause-ascending : goal.returns-clause-ascending
returns-clause-ascending g c =
    look_ascends _ _ _ _ _ _ (looks_as_seen _ _ _ _ _ _ _ c.in_ok-seen.ensures.ok c.show_or_nothing-shown.ensures)
