use Rattle.std.proofs.Common.{◌≡◌}
use Rattle.std.specs.List.{AllAdjacentBelow}
use Rattle.std.specs.declared.cmp.Ordering.TheVariants.{Less}
use Rattle.prodash_base.specs.Path.{path_cmp}
use Rattle.prodash_base.specs.Adjacency.{paths_of}
use Rattle.prodash_core_tests.proofs.adjacency.assert_sorted.Given as goal

abbrev pub invariant-loop-i : goal.invariant-loop-i
invariant-loop-i g l = AllAdjacentBelow (λ p q. path_cmp p q ≡ Less) (paths_of l.rows) l.i
