use Rattle.std.proofs.Common.{◌≡◌, length, arith}
use Rattle.std.specs.Cmp.{both_ways}
use Rattle.prodash_base.specs.declared.progress.Row.{Row}
use Rattle.prodash_base.specs.Adjacency.{paths_of}
use Rattle.prodash_base.proofs.AdjacencyLaws.{none_above, sibling_above, sibling_rows}
use Rattle.prodash_base.proofs.BranchLaws.{row_inside}
use Rattle.prodash_base.proofs.progress.key.neighbours.has_sibling_above.Goals as goal

pub returns-in_default : goal.returns-in_default
returns-in_default c =
    none_above (paths_of c.args.sorted.now) c.requires.sorted c.args.index (row_inside (λ (r : Row). r.key) c.args.sorted.now c.args.index c.requires.inside) c.args.level
    c.in_default.ensures

pub returns-then-level : goal.returns-then-level
returns-then-level c =
    let level : length c.in-Some.above.now ≡ c.args.level = omega (arith, c.level.ensures.value) in
    sibling_above (paths_of c.args.sorted.now) c.requires.sorted c.args.index (row_inside (λ (r : Row). r.key) c.args.sorted.now c.args.index c.requires.inside) c.args.level
    c.in-Some.above.now c.in-Some.ensures level

pub returns : goal.returns
returns c =
    let found = sibling_rows c.args.sorted.now c.requires.sorted c.args.index c.index-sorted-index.result c.requires.inside c.args.level
    c.first_of_branch-first.result c.first_of_branch-first.ensures.start in
    both_ways _ _ (λ t. found.0 (c.has_level.ensures.0 t)) (λ t. c.has_level.ensures.1 (found.1 t))
