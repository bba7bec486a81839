use Rattle.prodash_core.proofs.AscendingRows.{ascending_list}
use Rattle.prodash.proofs.ViewTurns.{looks_rows}
use Rattle.prodash.proofs.tree.recorded.view.RecordedView.sorted_snapshot.Goals as goal

pub returns-clause-ok : goal.returns-clause-ok
returns-clause-ok g c = looks_rows _ _ _ _ _ c.in_ok-rows.ensures.ok c.into_vec.ensures

pub returns-clause-ascending : goal.returns-clause-ascending
returns-clause-ascending g c = ascending_list _ c.into_vec.result.items c.into_vec.ensures c.in_ok-rows.ensures.ascending
