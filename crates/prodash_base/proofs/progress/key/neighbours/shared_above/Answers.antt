use Rattle.std.proofs.Common.{◌≡◌, ◌-◌, ◌<◌, sym, ap, ◌∙◌, arith}
use Rattle.std.specs.Ordering.{is_lt}
use Rattle.prodash_base.specs.declared.progress.Row.{Row}
use Rattle.prodash_base.specs.Adjacency.{paths_of}
use Rattle.prodash_base.specs.plumbing.Branches.{cmp_prefix, path_at}
use Rattle.prodash_base.proofs.AdjacencyLaws.{shared_behind, starts_behind, starts_first}
use Rattle.prodash_base.proofs.BranchLaws.{path_of_row, row_inside}
use Rattle.prodash_base.proofs.progress.key.neighbours.shared_above.Goals as goal

pub returns-then-index-eq0 : goal.returns-then-index-eq0
returns-then-index-eq0 c =
    starts_first (paths_of c.args.sorted.now) c.requires.sorted c.args.index (row_inside (λ (r : Row). r.key) c.args.sorted.now c.args.index c.requires.inside) c.args.level
    c.if-index-eq0.true

pub returns-then-is_lt : goal.returns-then-is_lt
returns-then-is_lt c =
    let rows = c.args.sorted.now in
    let x = c.args.index in
    let n = c.args.level in
    let some : 0 < x = omega arith in
    let above = path_of_row (λ (r : Row). r.key) rows (x - 1) c.index-sorted-index.result (omega arith) in
    let own = path_of_row (λ (r : Row). r.key) rows x c.index-sorted-index-2.result c.requires.inside in
    let same : cmp_prefix n (path_at (paths_of rows) (x - 1)) (path_at (paths_of rows) x) ≡ c.cmp_prefix.result = (λ i. cmp_prefix n (above i) (own i)) ∙ sym c.cmp_prefix.ensures in
    starts_behind (paths_of rows) c.requires.sorted x (row_inside (λ (r : Row). r.key) rows x c.requires.inside) n some (ap is_lt same ∙ sym c.is_lt.ensures ∙ c.if-is_lt.true)

pub returns : goal.returns
returns c =
    let rows = c.args.sorted.now in
    let x = c.args.index in
    let n = c.args.level in
    let some : 0 < x = omega arith in
    let above = path_of_row (λ (r : Row). r.key) rows (x - 1) c.index-sorted-index.result (omega arith) in
    let own = path_of_row (λ (r : Row). r.key) rows x c.index-sorted-index-2.result c.requires.inside in
    let same : cmp_prefix n (path_at (paths_of rows) (x - 1)) (path_at (paths_of rows) x) ≡ c.cmp_prefix.result = (λ i. cmp_prefix n (above i) (own i)) ∙ sym c.cmp_prefix.ensures in (
      some,
      sym above,
      (λ i. cmp_prefix n (sym above i) (path_at (paths_of rows) x))
          ∙ shared_behind (paths_of rows) c.requires.sorted x (row_inside (λ (r : Row). r.key) rows x c.requires.inside) n some (ap is_lt same ∙ sym c.is_lt.ensures ∙ c.if-is_lt.false),
    )
