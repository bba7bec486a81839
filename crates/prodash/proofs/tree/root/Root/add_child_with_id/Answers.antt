use Rattle.prodash.proofs.TurnLaws.{changes}
use Rattle.prodash.proofs.tree.root.Root.add_child_with_id.Goals as goal

pub returns-clause-added : goal.returns-clause-added
returns-clause-added g c = rw c.new-2.ensures (changes _ _ _ _ _ c.in_ok-task.ensures.added)
