-- Branches of an ascending list of paths.
use Rattle.std.proofs.Common.{◌≡◌, ℕ, zero, suc, ◌+◌, ◌<◌, ◌≤◌, List, [], ◌∷◌, length, take, map, get_or, Bool, true, false, IsTrue, inl, inr, refl, sym, ap, subst, ◌∙◌, arith}
use Rattle.std.specs.List.{AllWithin}
use Rattle.std.specs.List.Sorted.{IsPartitionPoint, IsPartitionedBy}
use Rattle.std.specs.Ordering.{nat_cmp, ordering_then, ordering_reverse, is_lt, is_gt, is_le, is_ge}
use Rattle.std.specs.declared.cmp.Ordering.{Ordering}
use Rattle.std.specs.declared.cmp.Ordering.TheVariants.{Less, Equal, Greater}
use Rattle.std.specs.Cmp.{IsTotalOrder}
use Rattle.std.specs.FinMap.{slice_cmp-IsAntisymmetric, nat_cmp-IsAntisymmetric}
use Rattle.std.specs.BTreeMap.Comparable.{le_lt_trans}
use Rattle.std.proofs.lemmas.Cmp.{upto, tied_itself, nat_cmp_total, nat_list_cmp_total}
use Rattle.std.proofs.lemmas.Bool.{cases_lt}
use Rattle.std.proofs.lemmas.List.{take_all, length-map, get_or-map}
use Rattle.std.proofs.Math.ListN as listn
use Rattle.prodash_base.specs.Path.{Path, path_cmp}
use Rattle.prodash_base.specs.Adjacency.{IsAscending}
use Rattle.prodash_base.specs.plumbing.Branches.{path_at, cmp_prefix, EndsBranch}

-- tests of orders
not_greater : (o : Ordering) → (o ≡ Greater → ⊥) → is_gt o ≡ false
not_greater Less h = refl
not_greater Equal h = refl
not_greater Greater h = absurd (h refl)

pub gt_if_not_le : (o : Ordering) → is_le o ≡ false → is_gt o ≡ true
gt_if_not_le Less h = cc
gt_if_not_le Equal h = cc
gt_if_not_le Greater h = refl

pub ge_if_not_lt : (o : Ordering) → is_lt o ≡ false → is_ge o ≡ true
ge_if_not_lt Less h = cc
ge_if_not_lt Equal h = refl
ge_if_not_lt Greater h = refl

pub le_if_not_gt : (o : Ordering) → is_gt o ≡ false → is_le o ≡ true
le_if_not_gt Less h = refl
le_if_not_gt Equal h = refl
le_if_not_gt Greater h = cc

not_gt_if_le : (o : Ordering) → is_le o ≡ true → is_gt o ≡ false
not_gt_if_le Less h = refl
not_gt_if_le Equal h = refl
not_gt_if_le Greater h = cc

less : (o : Ordering) → is_lt o ≡ true → o ≡ Less
less Less h = refl
less Equal h = cc
less Greater h = cc

greater_if_not_le : (o : Ordering) → (is_le o ≡ true → ⊥) → o ≡ Greater
greater_if_not_le Less h = absurd (h refl)
greater_if_not_le Equal h = absurd (h refl)
greater_if_not_le Greater h = refl

pub equal_if_both : (o : Ordering) → is_ge o ≡ true → is_gt o ≡ false → o ≡ Equal
equal_if_both Less h g = cc
equal_if_both Equal h g = refl
equal_if_both Greater h g = cc

-- the order of paths, turned
pub turned : (p q : Path) → path_cmp p q ≡ Less → path_cmp q p ≡ Greater
turned p q h = let total : IsTotalOrder path_cmp = nat_list_cmp_total in total.antisymm q p ∙ ap ordering_reverse h

-- the first numbers decide, unless they agree
prefix_decides : (n : ℕ) (q p : Path) → (cmp_prefix n q p ≡ Equal → ⊥) → path_cmp q p ≡ cmp_prefix n q p
prefix_decides zero q p differ = absurd (differ refl)
prefix_decides (suc n) [] [] differ = refl
prefix_decides (suc n) [] (y ∷ p) differ = refl
prefix_decides (suc n) (x ∷ q) [] differ = refl
prefix_decides (suc n) (x ∷ q) (y ∷ p) differ =
    elim (nat_cmp x y) as (λ o. (ordering_then o (cmp_prefix n q p) ≡ Equal → ⊥) → ordering_then o (path_cmp q p) ≡ ordering_then o (cmp_prefix n q p)) [
      | Less ↦ λ d. refl
      | Equal ↦ λ d. prefix_decides n q p d
      | Greater ↦ λ d. refl
    ] differ

later_prefix : (n : ℕ) (q p : Path) → cmp_prefix n q p ≡ Greater → path_cmp q p ≡ Greater
later_prefix n q p h = prefix_decides n q p (λ e. cc) ∙ h

-- a prefix is no greater than the path
pub prefix_le : (n : ℕ) (p : Path) → is_le (path_cmp (take n p) p) ≡ true
prefix_le zero [] = refl
prefix_le zero (x ∷ p) = refl
prefix_le (suc n) [] = refl
prefix_le (suc n) (x ∷ p) = subst (λ o. is_le (ordering_then o (path_cmp (take n p) p)) ≡ true) (sym (tied_itself nat_cmp_total x)) (prefix_le n p)

-- equal first numbers
pub same_prefix : (n : ℕ) (q p : Path) → cmp_prefix n q p ≡ Equal → take n q ≡ take n p
same_prefix n q p h = slice_cmp-IsAntisymmetric nat_cmp-IsAntisymmetric (take n q) (take n p) h

pub prefix_ties : (n : ℕ) (q p : Path) → take n q ≡ take n p → cmp_prefix n q p ≡ Equal
prefix_ties n q p h = subst (λ r. path_cmp r (take n p) ≡ Equal) (sym h) (tied_itself nat_list_cmp_total (take n p))

-- each path is less than all later ones
pub in_order : (S : List Path) → IsAscending S → (i j : ℕ) (d : Path) → i < j → j < length S → path_cmp (get_or S i d) (get_or S j d) ≡ Less
in_order S up i zero d ij jn = absurd (omega arith)
in_order S up i (suc j) d ij jn =
    let total : IsTotalOrder path_cmp = nat_list_cmp_total in
    let e : j + 1 ≡ suc j = omega arith in
    let next : path_cmp (get_or S j d) (get_or S (suc j) d) ≡ Less = subst (λ k. path_cmp (get_or S j d) (get_or S k d) ≡ Less) e (up j d (omega arith)) in
    elim (cases_lt i j) [
      | inl lt ↦ total.trans (get_or S i d) (get_or S j d) (get_or S (suc j) d) (in_order S up i j d lt (omega arith)) next
      | inr ge ↦ let here : j ≡ i = omega arith in subst (λ k. path_cmp (get_or S k d) (get_or S (suc j) d) ≡ Less) here next
    ]

module _ (S : List Path) (up : IsAscending S) where
  -- the first numbers never fall
  pub prefix_up : (n i j : ℕ) (d : Path) → i ≤ j → j < length S → is_gt (cmp_prefix n (get_or S i d) (get_or S j d)) ≡ false
  prefix_up n i j d ij jn = elim (cases_lt i j) [
    | inl lt ↦ not_greater _ (λ g. let a = later_prefix n (get_or S i d) (get_or S j d) g in let b = in_order S up i j d lt jn in cc)
    | inr ge ↦ let e : i ≡ j = omega arith in let t = prefix_ties n (get_or S i d) (get_or S j d) (ap (λ k. take n (get_or S k d)) e) in ap is_gt t
  ]

  -- the rows whose first numbers are at most those of p, or less, come first
  pub parted_le : (n : ℕ) (p : Path) → IsPartitionedBy (λ q. is_le (cmp_prefix n q p)) S
  parted_le n p i j d ij jn h =
      le_if_not_gt _ (upto nat_list_cmp_total (take n (get_or S i d)) (take n (get_or S j d)) (take n p) (prefix_up n i j d ij jn) (not_gt_if_le _ h))

  pub parted_lt : (n : ℕ) (p : Path) → IsPartitionedBy (λ q. is_lt (cmp_prefix n q p)) S
  parted_lt n p i j d ij jn h =
      ap is_lt (le_lt_trans nat_list_cmp_total (take n (get_or S i d)) (take n (get_or S j d)) (take n p) (le_if_not_gt _ (prefix_up n i j d ij jn)) (less _ h))

  -- a later path of l numbers comes after all that share the first l numbers of an earlier one
  pub past_branch : (l i k : ℕ) → i < k → k < length S → length (path_at S k) ≤ l → cmp_prefix l (path_at S k) (path_at S i) ≡ Greater
  past_branch l i k ik kn short =
      let p = path_at S i in
      let q = path_at S k in
      let whole : take l q ≡ q = take_all l q short in
      greater_if_not_le _ (λ le.
      let below : is_gt (path_cmp q (take l p)) ≡ false = subst (λ r. is_gt (path_cmp r (take l p)) ≡ false) whole (not_gt_if_le _ le) in
      let upward = upto nat_list_cmp_total q (take l p) p below (not_gt_if_le _ (prefix_le l p)) in
      let falls = turned p q (in_order S up i k [] ik kn) in
      let wrong : is_gt (path_cmp q p) ≡ true = ap is_gt falls in cc)

-- no path with l numbers is at an index from i up to next that is below end
abbrev pub NoneYet : List Path → ℕ → ℕ → ℕ → ℕ → Type 0
NoneYet S l i end next = (k : ℕ) → i ≤ k → k < next → k < end → length (path_at S k) ≡ l → ⊥

module _ (S : List Path) (up : IsAscending S) (l i end next after : ℕ) (inside : end ≤ length S) (here : next < end) where
  -- the step past a branch
  pub branch_past : AllWithin (λ q. IsTrue (is_gt (cmp_prefix l q (path_at S next)))) S after (length S) → next < after
  branch_past rest = elim (cases_lt next after) [
    | inl lt ↦ lt
    | inr ge ↦
        let one : is_gt (cmp_prefix l (path_at S next) (path_at S next)) ≡ true = rest next [] ge (omega arith) in
        let two : is_gt (cmp_prefix l (path_at S next) (path_at S next)) ≡ false = prefix_up S up l next next [] (omega arith) (omega arith) in cc
  ]

  pub none_more : AllWithin (λ q. IsTrue (is_le (cmp_prefix l q (path_at S next)))) S 0 after
      → (length (path_at S next) ≡ l → ⊥) → NoneYet S l i end next → NoneYet S l i end after
  none_more before not_here none k ik ka ke is = elim (cases_lt k next) [
    | inl lt ↦ none k ik lt ke is
    | inr ge ↦ elim (cases_lt next k) [
      | inl lt ↦
          let one : is_le (cmp_prefix l (path_at S k) (path_at S next)) ≡ true = before k [] (omega arith) ka in
          let two = past_branch S up l next k lt (omega arith) (omega arith) in
          let three : is_le (cmp_prefix l (path_at S k) (path_at S next)) ≡ false = ap is_le two in absurd (cc)
      | inr le ↦ let e : k ≡ next = omega arith in not_here (subst (λ j. length (path_at S j) ≡ l) e is)
    ]
  ]

-- tests of the paths of rows
module _ {X : Type 0} (f : X → Path) where
  rows_parted : (test : Path → Bool) (xs : List X) → IsPartitionedBy test (map f xs) → IsPartitionedBy (λ x. test (f x)) xs
  rows_parted test xs h i j d ij jn at_j =
      let long : j < length (map f xs) = subst (λ n. j < n) (sym (length-map xs f)) jn in
      let there : test (get_or (map f xs) j (f d)) ≡ true = subst (λ q. test q ≡ true) (sym (listn.get_or-map f xs j d)) at_j in
      subst (λ q. test q ≡ true) (listn.get_or-map f xs i d) (h i j (f d) ij long there)

  paths_within : (P : Path → Type 0) (xs : List X) (i j : ℕ) → j ≤ length xs → AllWithin (λ x. P (f x)) xs i j → AllWithin P (map f xs) i j
  paths_within P [] i j jn h k d ik kj = absurd (omega arith)
  paths_within P (x ∷ xs) i j jn h k d ik kj =
      subst P (sym (get_or-map f (x ∷ xs) k x d (omega arith))) (h k x ik kj)

  paths_parted : (test : Path → Bool) {other : Path → Bool} → ((q : Path) → test q ≡ false → other q ≡ true) → (xs : List X) (i : ℕ) → i ≤ length xs
      → IsPartitionPoint (λ x. test (f x) ≡ true) (λ x. test (f x) ≡ false) xs i → IsPartitionPoint (λ q. test q ≡ true) (λ q. other q ≡ true) (map f xs) i
  paths_parted test opposite xs i short at =
      let rest = paths_within (λ q. test q ≡ false) xs i (length xs) (omega arith) at.1 in
      (paths_within (λ q. test q ≡ true) xs 0 i short at.0, λ k d low high. opposite _ (rest k d low (subst (λ n. k < n) (length-map xs f) high)))

  -- the point that a test of the rows' paths finds, as a point of the paths
  pub point_of_paths : (test : Path → Bool) {other : Path → Bool} → ((q : Path) → test q ≡ false → other q ≡ true) → (xs : List X) (i : ℕ) → i ≤ length xs
      → (IsPartitionedBy (λ x. test (f x)) xs → IsPartitionPoint (λ x. test (f x) ≡ true) (λ x. test (f x) ≡ false) xs i)
      → IsPartitionedBy test (map f xs) → IsPartitionPoint (λ q. test q ≡ true) (λ q. other q ≡ true) (map f xs) i
  point_of_paths test opposite xs i short found parted = paths_parted test opposite xs i short (found (rows_parted test xs parted))

  -- all paths share their first 0 numbers
  pub one_branch : (xs : List X) (p : Path) → EndsBranch (map f xs) p 0 (length xs)
  one_branch xs p = (λ k d low high. refl, λ k d low high. let inside : k < length xs = subst (λ n. k < n) (length-map xs f) high in absurd (omega arith))

  pub path_of_row : (xs : List X) (i : ℕ) (d : X) → i < length xs → path_at (map f xs) i ≡ f (get_or xs i d)
  path_of_row xs i d h = get_or-map f xs i d [] h

  pub row_inside : (xs : List X) (i : ℕ) → i < length xs → i < length (map f xs)
  row_inside xs i h = subst (λ n. i < n) (sym (length-map xs f)) h

  -- the step past the branch of a row
  module _ (xs : List X) (up : IsAscending (map f xs)) (l i end next after : ℕ) (d : X) (inside : end ≤ length xs) (here : next < end)
      (branch : EndsBranch (map f xs) (f (get_or xs next d)) l after) where
    own_row : path_at (map f xs) next ≡ f (get_or xs next d)
    own_row = path_of_row xs next d (omega arith)

    own_branch : EndsBranch (map f xs) (path_at (map f xs) next) l after
    own_branch = subst (λ p. EndsBranch (map f xs) p l after) (sym own_row) branch

    all_inside : end ≤ length (map f xs)
    all_inside = subst (λ n. end ≤ n) (sym (length-map xs f)) inside

    pub row_past : next < after
    row_past = branch_past (map f xs) up l i end next after all_inside here own_branch.1

    pub no_row_more : (length (f (get_or xs next d)) ≡ l → ⊥) → NoneYet (map f xs) l i end next → NoneYet (map f xs) l i end after
    no_row_more other = none_more (map f xs) up l i end next after all_inside here own_branch.0 (λ e. other (sym (ap length own_row) ∙ e))
