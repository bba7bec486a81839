use Rattle.std.proofs.Common.{ℕ, length, sym, subst, rules}
use Rattle.std.specs.Ordering.{is_le}
use Rattle.std.proofs.lemmas.Fn.{always_returns_same}
use Rattle.prodash_base.specs.declared.progress.Row.{Row}
use Rattle.prodash_base.specs.Adjacency.{paths_of}
use Rattle.prodash_base.specs.Path.{Path}
use Rattle.prodash_base.specs.plumbing.Branches.{EndsBranch, cmp_prefix}
use Rattle.prodash_base.proofs.BranchLaws.{parted_le, one_branch, point_of_paths, gt_if_not_le}
use Rattle.prodash_base.proofs.progress.key.neighbours.end_of_branch.Goals as goal

pub returns-then-level-eq0-clause-end : goal.returns-then-level-eq0-clause-end
returns-then-level-eq0-clause-end c =
    let rows = c.args.sorted.now in
    subst (λ (n : ℕ). EndsBranch (paths_of rows) c.args.key.now n (length rows)) (sym c.if-level-eq0.true) (one_branch (λ (r : Row). r.key) rows c.args.key.now)

pub returns-clause-end : goal.returns-clause-end
returns-clause-end c =
    let test = λ (q : Path). is_le (cmp_prefix c.args.level q c.args.key.now) in
    point_of_paths (λ (r : Row). r.key) test (λ q. gt_if_not_le _) c.args.sorted.now c.partition_point.result c.partition_point.ensures.bound
    (c.partition_point.ensures.partitioned (λ (r : Row). test r.key) (search (rules, always_returns_same)))
    (parted_le _ c.requires.sorted c.args.level c.args.key.now)
