use Rattle.std.proofs.Common.{◌≡◌, ◌-◌, true, arith, refl, sym, ◌∙◌, get_or, subst}
use Rattle.std.specs.declared.cmp.Ordering.{Ordering}
use Rattle.std.specs.declared.cmp.Ordering.TheVariants.{Less, Equal, Greater}
use Rattle.std.specs.Ordering.{is_lt}
use Rattle.std.proofs.lemmas.List.{get_or-map}
use Rattle.std.proofs.lemmas.List.Sorted.{all_adjacent_more}
use Rattle.prodash_base.specs.Path.{Path, path_cmp}
use Rattle.prodash_base.specs.Adjacency.{paths_of}
use Rattle.prodash_base.specs.declared.progress.Row.{Row}
use Rattle.prodash_core_tests.proofs.adjacency.assert_sorted.Goals as goal

less : (o : Ordering) → is_lt o ≡ true → o ≡ Less
less Less h = refl
less Equal h = cc
less Greater h = cc

pub loop-i-preserved : goal.loop-i-preserved
loop-i-preserved g c =
    let i = c.loop-i.i in
    let rows = c.args.rows.now in
    let key = λ (r : Row). r.key in
    all_adjacent_more (paths_of rows) (λ p q. path_cmp p q ≡ Less) i (omega arith) c.loop-i.invariant (λ d.
    let before = get_or-map key rows (i - 1) c.index-rows-i.result d (omega arith) in
    let here = get_or-map key rows i c.index-rows-i-in-loop-i.result d (omega arith) in
    let first = (get_or rows (i - 1) c.index-rows-i.result).key in
    let second = (get_or rows i c.index-rows-i-in-loop-i.result).key in
    let so : c.lt.result ≡ true = cc in
    let order = sym c.lt.ensures ∙ so in
    subst (λ p. path_cmp p (get_or (paths_of rows) i d) ≡ Less) (sym before) (subst (λ q. path_cmp first q ≡ Less) (sym here) (less (path_cmp first second) order)))
