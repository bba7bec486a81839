use Rattle.std.proofs.Common.{refl}
use Rattle.prodash_core.proofs.AscendingRows.{ascending_list}
use Rattle.prodash.proofs.ViewTurns.{looks_same}
use Rattle.prodash.proofs.tree.recorded.view.RecordedView.snapshot_and_new_messages.Goals as goal

pub returns-clause-ok : goal.returns-clause-ok
returns-clause-ok g c =
    looks_same _ _ _ _ _ _ _ _ c.in_ok-seen_rows.ensures.ok c.into_vec.ensures c.into_vec-2.ensures refl

pub returns-clause-ascending : goal.returns-clause-ascending
returns-clause-ascending g c =
    ascending_list _ c.into_vec.result.items c.into_vec.ensures c.in_ok-seen_rows.ensures.ascending
