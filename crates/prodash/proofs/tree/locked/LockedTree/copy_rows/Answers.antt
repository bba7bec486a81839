use Rattle.std.proofs.Common.{refl}
use Rattle.prodash_core.proofs.AscendingRows.{ascending_list}
use Rattle.prodash.proofs.tree.locked.LockedTree.copy_rows.Goals as goal

pub returns-clause-ascending : goal.returns-clause-ascending
returns-clause-ascending c = ascending_list _ c.refill.new.out.items refl c.in_ok-refill.ensures.each.ascending
