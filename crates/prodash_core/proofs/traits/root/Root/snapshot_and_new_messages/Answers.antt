use Rattle.prodash_core.proofs.AscendingRows.{ascending_list}
use Rattle.prodash_core.proofs.traits.root.Root.snapshot_and_new_messages.Goals as goal

pub returns-clause-ascending : goal.returns-clause-ascending
returns-clause-ascending g c = ascending_list _ c.into_vec.result.items c.into_vec.ensures c.in_ok-seen_rows.ensures.ascending
