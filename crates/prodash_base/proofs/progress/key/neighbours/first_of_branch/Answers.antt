use Rattle.std.proofs.Common.{rules}
use Rattle.std.specs.Ordering.{is_lt}
use Rattle.std.proofs.lemmas.Fn.{always_returns_same}
use Rattle.prodash_base.specs.declared.progress.Row.{Row}
use Rattle.prodash_base.specs.Path.{Path}
use Rattle.prodash_base.specs.plumbing.Branches.{cmp_prefix}
use Rattle.prodash_base.proofs.BranchLaws.{parted_lt, point_of_paths, ge_if_not_lt}
use Rattle.prodash_base.proofs.progress.key.neighbours.first_of_branch.Goals as goal

pub returns-clause-start : goal.returns-clause-start
returns-clause-start c =
    let test = λ (q : Path). is_lt (cmp_prefix c.args.level q c.args.key.now) in
    point_of_paths (λ (r : Row). r.key) test (λ q. ge_if_not_lt _) c.args.sorted.now c.partition_point.result c.partition_point.ensures.bound
    (c.partition_point.ensures.partitioned (λ (r : Row). test r.key) (search (rules, always_returns_same)))
    (parted_lt _ c.requires.sorted c.args.level c.args.key.now)
