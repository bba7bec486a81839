use Rattle.std.proofs.Common.{◌≡◌, ◌-◌, length, sym, ◌∙◌, arith}
use Rattle.std.specs.Cmp.{both_ways, unsigned_Decides}
use Rattle.prodash_base.specs.declared.progress.Row.{Row}
use Rattle.prodash_base.specs.Adjacency.{paths_of}
use Rattle.prodash_base.proofs.AdjacencyLaws.{first_inside, no_parent, parent_above, parent_row}
use Rattle.prodash_base.proofs.BranchLaws.{row_inside}
use Rattle.prodash_base.proofs.progress.key.neighbours.has_parent.Goals as goal

pub returns-in_default : goal.returns-in_default
returns-in_default c =
    no_parent (paths_of c.args.sorted.now) c.requires.sorted c.args.index (row_inside (λ (r : Row). r.key) c.args.sorted.now c.args.index c.requires.inside) c.args.level
    c.requires.level c.requires.own c.in_default.ensures

pub returns-then-level : goal.returns-then-level
returns-then-level c =
    let level : length c.in-Some.above.now ≡ c.args.level - 1 = omega (arith, c.level.ensures.value) in
    parent_above (paths_of c.args.sorted.now) c.requires.sorted c.args.index (row_inside (λ (r : Row). r.key) c.args.sorted.now c.args.index c.requires.inside) c.args.level
    c.in-Some.above.now c.in-Some.ensures level

pub bounds-sorted-first : goal.bounds-sorted-first
bounds-sorted-first c =
    first_inside c.args.sorted.now c.requires.sorted c.args.index c.index-sorted-index.result c.requires.inside c.args.level
    c.first_of_branch-first.result c.first_of_branch-first.ensures.start

pub returns : goal.returns
returns c =
    let found = parent_row c.args.sorted.now c.requires.sorted c.args.index c.index-sorted-index.result c.requires.inside c.args.level
    c.first_of_branch-first.result c.first_of_branch-first.ensures.start c.index-sorted-first.result c.requires.own in
    let decides = unsigned_Decides c.level-2.result (c.args.level - 1) in
    both_ways _ _ (λ t. found.0 (sym c.level-2.ensures.value ∙ decides.0 t)) (λ t. decides.1 (c.level-2.ensures.value ∙ found.1 t))
