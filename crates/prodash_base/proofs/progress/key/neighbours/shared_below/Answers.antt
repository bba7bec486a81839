use Rattle.std.proofs.Common.{◌≡◌, ℕ, ◌+◌, ◌<◌, ◌≤◌, length, refl, sym, ap, ◌∙◌, arith}
use Rattle.std.specs.Ordering.{is_gt}
use Rattle.std.specs.declared.cmp.Ordering.TheVariants.{Equal}
use Rattle.std.proofs.lemmas.List.{length-map}
use Rattle.prodash_base.specs.declared.progress.Row.{Row}
use Rattle.prodash_base.specs.Adjacency.{paths_of}
use Rattle.prodash_base.specs.plumbing.Branches.{cmp_prefix, path_at}
use Rattle.prodash_base.proofs.AdjacencyLaws.{ends_before, ends_last, shared_before}
use Rattle.prodash_base.proofs.BranchLaws.{path_of_row, prefix_ties, row_inside}
use Rattle.prodash_base.proofs.progress.key.neighbours.shared_below.Goals as goal

pub returns-then-next-count : goal.returns-then-next-count
returns-then-next-count c =
    let rows = c.args.sorted.now in
    let last : length (paths_of rows) ≤ c.args.index + 1 = omega (arith, length-map rows (λ (r : Row). r.key)) in
    ends_last (paths_of rows) c.requires.sorted c.args.index (row_inside (λ (r : Row). r.key) rows c.args.index c.requires.inside) c.args.level last

pub returns-then-level-eq0 : goal.returns-then-level-eq0
returns-then-level-eq0 c =
    let rows = c.args.sorted.now in
    let x = c.args.index in
    let more : x + 1 < length (paths_of rows) = omega (arith, length-map rows (λ (r : Row). r.key)) in
    let below = path_of_row (λ (r : Row). r.key) rows (x + 1) c.index-sorted-next.result (omega arith) in
    let none : cmp_prefix 0 (path_at (paths_of rows) (x + 1)) (path_at (paths_of rows) x) ≡ Equal = prefix_ties 0 (path_at (paths_of rows) (x + 1)) (path_at (paths_of rows) x) refl in (
      more,
      sym below,
      (λ i. cmp_prefix c.args.level (sym below i) (path_at (paths_of rows) x))
          ∙ ap (λ (n : ℕ). cmp_prefix n (path_at (paths_of rows) (x + 1)) (path_at (paths_of rows) x)) c.if-level-eq0.true ∙ none,
    )

pub returns-then-is_gt : goal.returns-then-is_gt
returns-then-is_gt c =
    let rows = c.args.sorted.now in
    let x = c.args.index in
    let n = c.args.level in
    let more : x + 1 < length (paths_of rows) = omega (arith, length-map rows (λ (r : Row). r.key)) in
    let below = path_of_row (λ (r : Row). r.key) rows (x + 1) c.index-sorted-next.result (omega arith) in
    let own = path_of_row (λ (r : Row). r.key) rows x c.index-sorted-index.result c.requires.inside in
    let same : cmp_prefix n (path_at (paths_of rows) (x + 1)) (path_at (paths_of rows) x) ≡ c.cmp_prefix.result = (λ i. cmp_prefix n (below i) (own i)) ∙ sym c.cmp_prefix.ensures in
    ends_before (paths_of rows) c.requires.sorted x (row_inside (λ (r : Row). r.key) rows x c.requires.inside) n more (ap is_gt same ∙ sym c.is_gt.ensures ∙ c.if-is_gt.true)

pub returns : goal.returns
returns c =
    let rows = c.args.sorted.now in
    let x = c.args.index in
    let n = c.args.level in
    let more : x + 1 < length (paths_of rows) = omega (arith, length-map rows (λ (r : Row). r.key)) in
    let below = path_of_row (λ (r : Row). r.key) rows (x + 1) c.index-sorted-next.result (omega arith) in
    let own = path_of_row (λ (r : Row). r.key) rows x c.index-sorted-index.result c.requires.inside in
    let same : cmp_prefix n (path_at (paths_of rows) (x + 1)) (path_at (paths_of rows) x) ≡ c.cmp_prefix.result = (λ i. cmp_prefix n (below i) (own i)) ∙ sym c.cmp_prefix.ensures in (
      more,
      sym below,
      (λ i. cmp_prefix n (sym below i) (path_at (paths_of rows) x))
          ∙ shared_before (paths_of rows) c.requires.sorted x (row_inside (λ (r : Row). r.key) rows x c.requires.inside) n more (ap is_gt same ∙ sym c.is_gt.ensures ∙ c.if-is_gt.false),
    )
