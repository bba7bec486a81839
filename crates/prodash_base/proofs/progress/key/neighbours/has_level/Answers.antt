use Rattle.std.proofs.Common.{◌<◌, arith}
use Rattle.prodash_base.specs.declared.progress.Row.{Row}
use Rattle.prodash_base.proofs.BranchLaws.{row_past, no_row_more}
use Rattle.prodash_base.proofs.progress.key.neighbours.has_level.Goals as goal

pub loop-next-smaller : goal.loop-next-smaller
loop-next-smaller c =
    let past : c.loop-next.next < c.end_of_branch-next.result =
    row_past (λ (r : Row). r.key) c.args.sorted.now c.requires.sorted c.args.level c.args.start c.args.end c.loop-next.next c.end_of_branch-next.result
    c.index-sorted-next.result (omega arith) (omega arith) c.end_of_branch-next.ensures.end in
    omega arith

pub loop-next-preserved : goal.loop-next-preserved
loop-next-preserved c =
    let next = c.loop-next.next in
    let after = c.end_of_branch-next.result in
    let branch = c.end_of_branch-next.ensures.end in
    let past : next < after =
    row_past (λ (r : Row). r.key) c.args.sorted.now c.requires.sorted c.args.level c.args.start c.args.end next after c.index-sorted-next.result (omega arith) (omega arith) branch in (
      no_row_more (λ (r : Row). r.key) c.args.sorted.now c.requires.sorted c.args.level c.args.start c.args.end next after c.index-sorted-next.result (omega arith) (omega arith) branch
          (λ e. omega arith) c.loop-next.invariant.0,
      omega arith,
    )
