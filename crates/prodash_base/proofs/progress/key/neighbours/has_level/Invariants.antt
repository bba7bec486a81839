use Rattle.std.proofs.Common.{◌-◌, ◌≤◌}
use Rattle.prodash_base.specs.Adjacency.{paths_of}
use Rattle.prodash_base.proofs.BranchLaws.{NoneYet}
use Rattle.prodash_base.proofs.progress.key.neighbours.has_level.Given as goal

abbrev pub invariant-loop-next : goal.invariant-loop-next
invariant-loop-next l = NoneYet (paths_of l.sorted) l.level l.start l.end l.next × (l.start ≤ l.next)

abbrev pub decreases-loop-next : goal.decreases-loop-next
decreases-loop-next l = l.end - l.next
