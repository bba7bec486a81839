-- Adjacency: the paths that the tests of `specs/Adjacency.antt` find, as indices of the list.
use Rattle.std.proofs.Common.{◌≡◌, ℕ, suc, ◌+◌, ◌-◌, ◌<◌, ◌≤◌, List, [], ◌∷◌, length, take, Bool, true, false, IsTrue, ◌&&◌, ◌↔◌, get_or, inl, inr, refl, sym, ap, subst, ◌∙◌, arith}
use Rattle.std.specs.List.{AllWithin, list_any}
use Rattle.std.specs.Ordering.{is_lt, is_gt, is_le, is_ge, ordering_reverse}
use Rattle.std.specs.declared.cmp.Ordering.{Ordering}
use Rattle.std.specs.declared.cmp.Ordering.TheVariants.{Less, Equal, Greater}
use Rattle.std.specs.Cmp.{IsTotalOrder, unsigned_Decides}
use Rattle.std.specs.Cmp.Lexicographic.{bytes_decides}
use Rattle.std.proofs.lemmas.Cmp.{tied_itself, nat_list_cmp_total}
use Rattle.std.proofs.lemmas.Bool.{cases_lt, or_cases, and_parts}
use Rattle.std.proofs.lemmas.List.{get_or_default, take_all, length-map, length-take-le}
use Rattle.std.proofs.lemmas.List.Folds.{list_any_at}
use Rattle.prodash_base.specs.declared.progress.Row.{Row}
use Rattle.prodash_base.specs.Path.{Path, path_cmp}
use Rattle.prodash_base.specs.Numbers.{same_numbers}
use Rattle.prodash_base.specs.Adjacency.{IsAscending, paths_of, is_beside, has_sibling_before, has_parent, has_below}
use Rattle.prodash_base.specs.plumbing.Branches.{path_at, cmp_prefix, HasLevel, IsSharedAbove, IsSharedBelow, StartsBranch, EndsBranch}
use Rattle.prodash_base.proofs.BranchLaws.{in_order, turned, equal_if_both, ge_if_not_lt, gt_if_not_le, le_if_not_gt, parted_le, parted_lt, same_prefix, prefix_ties, prefix_le, prefix_up, path_of_row, row_inside}

both : (a b : Bool) → a ≡ true → b ≡ true → (a && b) ≡ true
both a b x y i = x i && y i

-- an index at which a test is true
listed : (test : Path → Bool) (S : List Path) → list_any test S ≡ true → (k : ℕ) × (k < length S) × (test (path_at S k) ≡ true)
listed test [] h = cc
listed test (q ∷ S) h = elim (or_cases (test q) (list_any test S) h) [
  | inl now ↦ (0, omega arith, now)
  | inr later ↦ let r = listed test S later in (suc r.0, omega (arith, r.1), r.2)
]

-- a path that is no greater than another that is no greater than it, by their first n numbers
equal_between : (n : ℕ) (q p : Path) → is_le (cmp_prefix n q p) ≡ true → is_gt (cmp_prefix n p q) ≡ false → cmp_prefix n q p ≡ Equal
equal_between n q p le gt = by (cmp_prefix n q p) refl
  where
    by : (o : Ordering) → cmp_prefix n q p ≡ o → o ≡ Equal
    by Less e = let t = turned (take n q) (take n p) e in let u : is_gt (cmp_prefix n p q) ≡ true = ap is_gt t in absurd (cc)
    by Equal e = refl
    by Greater e = let u : is_le (cmp_prefix n q p) ≡ false = ap is_le e in absurd (cc)

-- what the test of a sibling says
sibling : (l : ℕ) (p q : Path) → length q ≡ l → cmp_prefix (l - 1) q p ≡ Equal → is_beside p l q ≡ true
sibling l p q level tie =
    both _ _ ((unsigned_Decides (length q) l).1 level) ((bytes_decides (take (l - 1) p) (take (l - 1) q)).1 (sym (same_prefix (l - 1) q p tie)))

sibling_level : (l : ℕ) (p q : Path) → is_beside p l q ≡ true → length q ≡ l
sibling_level l p q h = (unsigned_Decides (length q) l).0 (and_parts _ _ h).0

sibling_tie : (l : ℕ) (p q : Path) → is_beside p l q ≡ true → cmp_prefix (l - 1) q p ≡ Equal
sibling_tie l p q h = prefix_ties (l - 1) q p (sym ((bytes_decides (take (l - 1) p) (take (l - 1) q)).0 (and_parts _ _ h).1))

module _ (S : List Path) (up : IsAscending S) (x : ℕ) (inside : x < length S) where
  own_tie : path_cmp (path_at S x) (path_at S x) ≡ Equal
  own_tie = tied_itself nat_list_cmp_total (path_at S x)

  not_before : (k : ℕ) → k < length S → x ≤ k → is_lt (path_cmp (path_at S k) (path_at S x)) ≡ false
  not_before k kn xk = elim (cases_lt x k) [
    | inl lt ↦ ap is_lt (turned (path_at S x) (path_at S k) (in_order S up x k [] lt kn))
    | inr ge ↦ let e : x ≡ k = omega arith in subst (λ j. is_lt (path_cmp (path_at S j) (path_at S x)) ≡ false) e (ap is_lt own_tie)
  ]

  not_after : (k : ℕ) → k ≤ x → is_gt (path_cmp (path_at S k) (path_at S x)) ≡ false
  not_after k kx = elim (cases_lt k x) [
    | inl lt ↦ ap is_gt (in_order S up k x [] lt inside)
    | inr ge ↦ let e : x ≡ k = omega arith in subst (λ j. is_gt (path_cmp (path_at S j) (path_at S x)) ≡ false) e (ap is_gt own_tie)
  ]

  -- a path that shares its first n numbers with the own isn't before their first
  module _ (n first : ℕ) (before : AllWithin (λ q. IsTrue (is_lt (cmp_prefix n q (path_at S x)))) S 0 first) where
    from_first : (k : ℕ) → cmp_prefix n (path_at S k) (path_at S x) ≡ Equal → first ≤ k
    from_first k tie = elim (cases_lt k first) [
      | inl lt ↦ let one = before k [] (omega arith) lt in let two : is_lt (cmp_prefix n (path_at S k) (path_at S x)) ≡ false = ap is_lt tie in absurd (cc)
      | inr ge ↦ ge
    ]

    pub first_le : first ≤ x
    first_le = from_first x (prefix_ties n (path_at S x) (path_at S x) refl)

  -- siblings before, as rows with l numbers from the first of the branch up to the own
  pub found_before : (l first : ℕ) → AllWithin (λ q. IsTrue (is_ge (cmp_prefix (l - 1) q (path_at S x)))) S first (length S)
      → HasLevel S l first x → has_sibling_before S (path_at S x) l ≡ true
  found_before l first rest at =
      let k = at.0 in
      let p = path_at S x in
      let q = path_at S k in
      let kx : k < x = at.2 in
      let lt : path_cmp q p ≡ Less = in_order S up k x [] kx inside in
      let ge : is_ge (cmp_prefix (l - 1) q p) ≡ true = rest k [] at.1 (omega arith) in
      let gt : is_gt (cmp_prefix (l - 1) q p) ≡ false = prefix_up S up (l - 1) k x [] (omega arith) inside in
      list_any_at (λ r. is_lt (path_cmp r p) && is_beside p l r) S k [] (omega arith)
      (both _ _ (ap is_lt lt) (sibling l p q at.3 (equal_if_both _ ge gt)))

  pub before_found : (l first : ℕ) → AllWithin (λ q. IsTrue (is_lt (cmp_prefix (l - 1) q (path_at S x)))) S 0 first
      → has_sibling_before S (path_at S x) l ≡ true → HasLevel S l first x
  before_found l first before h =
      let p = path_at S x in
      let found = listed (λ r. is_lt (path_cmp r p) && is_beside p l r) S h in
      let k = found.0 in
      let q = path_at S k in
      let parts = and_parts (is_lt (path_cmp q p)) (is_beside p l q) found.2 in
      let low : first ≤ k = from_first (l - 1) first before k (sibling_tie l p q parts.1) in
      let high : k < x = elim (cases_lt k x) [
        | inl lt ↦ lt
        | inr ge ↦ let one = not_before k found.1 ge in let two = parts.0 in absurd (cc)
      ] in
      (k, low, high, sibling_level l p q parts.1)

  -- siblings after, as rows with l numbers from the own on up to the end of the branch
  pub found_after : (l end : ℕ) → end ≤ length S → AllWithin (λ q. IsTrue (is_le (cmp_prefix (l - 1) q (path_at S x)))) S 0 end
      → HasLevel S l (x + 1) end → has_below S (path_at S x) l ≡ true
  found_after l end short before at =
      let k = at.0 in
      let p = path_at S x in
      let q = path_at S k in
      let xk : x + 1 ≤ k = at.1 in
      let ke : k < end = at.2 in
      let gt : path_cmp q p ≡ Greater = turned p q (in_order S up x k [] (omega arith) (omega arith)) in
      let le : is_le (cmp_prefix (l - 1) q p) ≡ true = before k [] (omega arith) ke in
      let rise : is_gt (cmp_prefix (l - 1) p q) ≡ false = prefix_up S up (l - 1) x k [] (omega arith) (omega arith) in
      list_any_at (λ r. is_gt (path_cmp r p) && is_beside p l r) S k [] (omega arith)
      (both _ _ (ap is_gt gt) (sibling l p q at.3 (equal_between (l - 1) q p le rise)))

  pub after_found : (l end : ℕ) → AllWithin (λ q. IsTrue (is_gt (cmp_prefix (l - 1) q (path_at S x)))) S end (length S)
      → has_below S (path_at S x) l ≡ true → HasLevel S l (x + 1) end
  after_found l end rest h =
      let p = path_at S x in
      let found = listed (λ r. is_gt (path_cmp r p) && is_beside p l r) S h in
      let k = found.0 in
      let q = path_at S k in
      let parts = and_parts (is_gt (path_cmp q p)) (is_beside p l q) found.2 in
      let low : x + 1 ≤ k = elim (cases_lt x k) [
        | inl lt ↦ omega arith
        | inr ge ↦ let one = not_after k ge in let two = parts.0 in absurd (cc)
      ] in
      let high : k < end = elim (cases_lt k end) [
        | inl lt ↦ lt
        | inr ge ↦
            let one : is_gt (cmp_prefix (l - 1) q p) ≡ true = rest k [] ge found.1 in
            let two : is_gt (cmp_prefix (l - 1) q p) ≡ false = ap is_gt (sibling_tie l p q parts.1) in absurd (cc)
      ] in
      (k, low, high, sibling_level l p q parts.1)

  -- the parent, as the first row of the branch
  module _ (l first : ℕ)
      (before : AllWithin (λ q. IsTrue (is_lt (cmp_prefix (l - 1) q (path_at S x)))) S 0 first)
      (rest : AllWithin (λ q. IsTrue (is_ge (cmp_prefix (l - 1) q (path_at S x)))) S first (length S)) where
    first_tie : cmp_prefix (l - 1) (path_at S first) (path_at S x) ≡ Equal
    first_tie =
        let fx = first_le (l - 1) first before in
        equal_if_both _ (rest first [] (omega arith) (omega arith)) (prefix_up S up (l - 1) first x [] fx inside)

    pub first_is_parent : length (path_at S first) ≡ l - 1 → has_parent S (path_at S x) l ≡ true
    first_is_parent level =
        let fx = first_le (l - 1) first before in
        let p = path_at S x in
        let q = path_at S first in
        let whole : take (l - 1) q ≡ q = take_all (l - 1) q (omega arith) in
        let same : take (l - 1) p ≡ q = sym (same_prefix (l - 1) q p first_tie) ∙ whole in
        list_any_at (same_numbers (take (l - 1) p)) S first [] (omega arith) ((bytes_decides (take (l - 1) p) q).1 same)

    pub parent_is_first : l ≤ length (path_at S x) → has_parent S (path_at S x) l ≡ true → length (path_at S first) ≡ l - 1
    parent_is_first short h =
        let n = l - 1 in
        let p = path_at S x in
        let found = listed (same_numbers (take n p)) S h in
        let k = found.0 in
        let q = path_at S k in
        let f = path_at S first in
        let same : take n p ≡ q = (bytes_decides (take n p) q).0 found.2 in
        let long : length (take n p) ≡ n = length-take-le n p (omega arith) in
        let level : length q ≡ n = ap length (sym same) ∙ long in
        let whole : take n q ≡ q = take_all n q (omega arith) in
        let low : first ≤ k = from_first n first before k (prefix_ties n q p (whole ∙ sym same)) in
        elim (cases_lt first k) [
          | inl lt ↦
              let falls : is_le (path_cmp q f) ≡ false = ap is_le (turned f q (in_order S up first k [] lt found.1)) in
              let prefix : take n f ≡ q = same_prefix n f p first_tie ∙ same in
              let rises : is_le (path_cmp q f) ≡ true = subst (λ r. is_le (path_cmp r f) ≡ true) prefix (prefix_le n f) in
              absurd (cc)
          | inr ge ↦ let e : k ≡ first = omega arith in ap (λ j. length (path_at S j)) (sym e) ∙ level
        ]

-- ---- the paths beside one

turned_ge : (o : Ordering) → is_gt o ≡ false → is_ge (ordering_reverse o) ≡ true
turned_ge Less h = refl
turned_ge Equal h = refl
turned_ge Greater h = cc

le_false : (o : Ordering) → is_gt o ≡ true → is_le o ≡ false
le_false Less h = cc
le_false Equal h = cc
le_false Greater h = refl

module _ (S : List Path) (up : IsAscending S) (x : ℕ) (inside : x < length S) (n : ℕ) where
  not_less : AllWithin (λ q. IsTrue (is_ge (cmp_prefix n q (path_at S x)))) S x (length S)
  not_less k d low high =
      let total : IsTotalOrder path_cmp = nat_list_cmp_total in
      let p = path_at S x in
      let q = get_or S k d in
      let gt : is_gt (cmp_prefix n p q) ≡ false = subst (λ r. is_gt (cmp_prefix n r q) ≡ false) (get_or_default S x d [] inside) (prefix_up S up n x k d low high) in
      ap is_ge (total.antisymm (take n q) (take n p)) ∙ turned_ge (cmp_prefix n p q) gt

  pub starts_first : x ≡ 0 → StartsBranch S (path_at S x) n x
  starts_first e = (λ k d low high. absurd (omega arith), not_less)

  pub starts_behind : 0 < x → is_lt (cmp_prefix n (path_at S (x - 1)) (path_at S x)) ≡ true → StartsBranch S (path_at S x) n x
  starts_behind some lt = (
    λ k d low high. parted_lt S up n (path_at S x) k (x - 1) d (omega arith) (omega arith)
        (subst (λ q. is_lt (cmp_prefix n q (path_at S x)) ≡ true) (get_or_default S (x - 1) [] d (omega arith)) lt),
    not_less,
  )

  pub shared_behind : 0 < x → is_lt (cmp_prefix n (path_at S (x - 1)) (path_at S x)) ≡ false → cmp_prefix n (path_at S (x - 1)) (path_at S x) ≡ Equal
  shared_behind some not_lt = equal_if_both _ (ge_if_not_lt _ not_lt) (prefix_up S up n (x - 1) x [] (omega arith) inside)

  not_greater_before : AllWithin (λ q. IsTrue (is_le (cmp_prefix n q (path_at S x)))) S 0 (x + 1)
  not_greater_before k d low high =
      le_if_not_gt _ (subst (λ r. is_gt (cmp_prefix n (get_or S k d) r) ≡ false) (get_or_default S x d [] inside) (prefix_up S up n k x d (omega arith) inside))

  pub ends_last : length S ≤ x + 1 → EndsBranch S (path_at S x) n (x + 1)
  ends_last last = (not_greater_before, λ k d low high. absurd (omega arith))

  pub ends_before : x + 1 < length S → is_gt (cmp_prefix n (path_at S (x + 1)) (path_at S x)) ≡ true → EndsBranch S (path_at S x) n (x + 1)
  ends_before more gt = (not_greater_before, λ k d low high. gt_if_not_le _ (by k d low high (is_le (cmp_prefix n (get_or S k d) (path_at S x))) refl))
    where
      by : (k : ℕ) (d : Path) → x + 1 ≤ k → k < length S → (b : Bool) → is_le (cmp_prefix n (get_or S k d) (path_at S x)) ≡ b → b ≡ false
      by k d low high true le =
          let there : is_le (cmp_prefix n (get_or S (x + 1) d) (path_at S x)) ≡ true = parted_le S up n (path_at S x) (x + 1) k d low high le in
          let here : is_le (cmp_prefix n (path_at S (x + 1)) (path_at S x)) ≡ true =
          subst (λ q. is_le (cmp_prefix n q (path_at S x)) ≡ true) (get_or_default S (x + 1) d [] more) there in
          let other : is_le (cmp_prefix n (path_at S (x + 1)) (path_at S x)) ≡ false = le_false _ gt in
          absurd (cc)
      by k d low high false le = refl

  pub shared_before : x + 1 < length S → is_gt (cmp_prefix n (path_at S (x + 1)) (path_at S x)) ≡ false → cmp_prefix n (path_at S (x + 1)) (path_at S x) ≡ Equal
  shared_before more not_gt = equal_between n (path_at S (x + 1)) (path_at S x) (le_if_not_gt _ not_gt) (prefix_up S up n x (x + 1) [] (omega arith) more)

-- the tests, where the path beside one decides
module _ (S : List Path) (up : IsAscending S) (x : ℕ) (inside : x < length S) (l : ℕ) where
  refuted : (b : Bool) → (b ≡ true → ⊥) → false ≡ b
  refuted true h = absurd (h refl)
  refuted false h = refl

  pub none_above : StartsBranch S (path_at S x) (l - 1) x → false ≡ has_sibling_before S (path_at S x) l
  none_above branch = refuted (has_sibling_before S (path_at S x) l) (λ h. let at = before_found S up x inside l x branch.0 h in let low : x ≤ at.0 = at.1 in let high : at.0 < x = at.2 in omega arith)

  pub none_below : EndsBranch S (path_at S x) (l - 1) (x + 1) → false ≡ has_below S (path_at S x) l
  none_below branch = refuted (has_below S (path_at S x) l) (λ h. let at = after_found S up x inside l (x + 1) branch.1 h in let low : x + 1 ≤ at.0 = at.1 in let high : at.0 < x + 1 = at.2 in omega arith)

  pub no_parent : 0 < l → l ≤ length (path_at S x) → StartsBranch S (path_at S x) (l - 1) x → false ≡ has_parent S (path_at S x) l
  no_parent some short branch =
      refuted (has_parent S (path_at S x) l) (λ h. let level : length (path_at S x) ≡ l - 1 = parent_is_first S up x inside l x branch.0 branch.1 short h in omega arith)

  pub sibling_above : (q : Path) → IsSharedAbove S (l - 1) x q → length q ≡ l → true ≡ has_sibling_before S (path_at S x) l
  sibling_above q shared level =
      let p = path_at S x in
      let k = x - 1 in
      let some : 0 < x = shared.0 in
      let lt : path_cmp (path_at S k) p ≡ Less = in_order S up k x [] (omega arith) inside in
      let less : path_cmp q p ≡ Less = ap (λ (r : Path). path_cmp r p) shared.1 ∙ lt in
      sym (list_any_at (λ r. is_lt (path_cmp r p) && is_beside p l r) S k [] (omega arith)
      (subst (λ r. (is_lt (path_cmp r p) && is_beside p l r) ≡ true) shared.1 (both _ _ (ap is_lt less) (sibling l p q level shared.2))))

  pub sibling_below : (q : Path) → IsSharedBelow S (l - 1) x q → length q ≡ l → true ≡ has_below S (path_at S x) l
  sibling_below q shared level =
      let p = path_at S x in
      let k = x + 1 in
      let more : x + 1 < length S = shared.0 in
      let gt : path_cmp (path_at S k) p ≡ Greater = turned p (path_at S k) (in_order S up x k [] (omega arith) more) in
      let greater : path_cmp q p ≡ Greater = ap (λ (r : Path). path_cmp r p) shared.1 ∙ gt in
      sym (list_any_at (λ r. is_gt (path_cmp r p) && is_beside p l r) S k [] more
      (subst (λ r. (is_gt (path_cmp r p) && is_beside p l r) ≡ true) shared.1 (both _ _ (ap is_gt greater) (sibling l p q level shared.2))))

  pub parent_above : (q : Path) → IsSharedAbove S (l - 1) x q → length q ≡ l - 1 → true ≡ has_parent S (path_at S x) l
  parent_above q shared level =
      let p = path_at S x in
      let some : 0 < x = shared.0 in
      let whole : take (l - 1) q ≡ q = take_all (l - 1) q (omega arith) in
      let same : take (l - 1) p ≡ q = sym (same_prefix (l - 1) q p shared.2) ∙ whole in
      sym (list_any_at (same_numbers (take (l - 1) p)) S (x - 1) [] (omega arith)
      (subst (λ r. same_numbers (take (l - 1) p) r ≡ true) shared.1 ((bytes_decides (take (l - 1) p) q).1 same)))

-- the same, of rows: `first` and `end` are the bounds of the branch of the row at index x
module _ (rows : List Row) (up : IsAscending (paths_of rows)) (x : ℕ) (d : Row) (inside : x < length rows) (l : ℕ) where
  own_key : path_at (paths_of rows) x ≡ (get_or rows x d).key
  own_key = path_of_row (λ (r : Row). r.key) rows x d inside

  own_inside : x < length (paths_of rows)
  own_inside = row_inside (λ (r : Row). r.key) rows x inside

  pub below_rows : (end : ℕ) → end ≤ length rows → EndsBranch (paths_of rows) (get_or rows x d).key (l - 1) end
      → HasLevel (paths_of rows) l (x + 1) end ↔ (has_below (paths_of rows) (path_at (paths_of rows) x) l ≡ true)
  below_rows end short branch =
      let own = subst (λ p. EndsBranch (paths_of rows) p (l - 1) end) (sym own_key) branch in
      let long = length-map rows (λ (r : Row). r.key) in
      (found_after (paths_of rows) up x own_inside l end (omega arith) own.0, after_found (paths_of rows) up x own_inside l end own.1)

  module _ (first : ℕ) (branch : StartsBranch (paths_of rows) (get_or rows x d).key (l - 1) first) where
    own_branch : StartsBranch (paths_of rows) (path_at (paths_of rows) x) (l - 1) first
    own_branch = subst (λ p. StartsBranch (paths_of rows) p (l - 1) first) (sym own_key) branch

    pub sibling_rows : HasLevel (paths_of rows) l first x ↔ (has_sibling_before (paths_of rows) (path_at (paths_of rows) x) l ≡ true)
    sibling_rows = (found_before (paths_of rows) up x own_inside l first own_branch.1, before_found (paths_of rows) up x own_inside l first own_branch.0)

    pub first_inside : first < length rows
    first_inside = let fx = first_le (paths_of rows) up x own_inside (l - 1) first own_branch.0 in omega arith

    pub parent_row : (e : Row) → l ≤ length (path_at (paths_of rows) x)
        → (length (get_or rows first e).key ≡ l - 1) ↔ (has_parent (paths_of rows) (path_at (paths_of rows) x) l ≡ true)
    parent_row e short =
        let at = path_of_row (λ (r : Row). r.key) rows first e first_inside in (
          λ level. first_is_parent (paths_of rows) up x own_inside l first own_branch.0 own_branch.1 (ap length at ∙ level),
          λ t. sym (ap length at) ∙ parent_is_first (paths_of rows) up x own_inside l first own_branch.0 own_branch.1 short t,
        )
