use Rattle.prodash.proofs.ViewTicks.{tree_seen}
use Rattle.prodash.proofs.tree.recorded.audited_root.WeakViewAuditedRoot.see.Goals as goal

pub returns-clause-ok : goal.returns-clause-ok
returns-clause-ok g c = tree_seen _ _ _ _ _ _ c.in_ok-seen.ensures.ok
