-- Rows that are searched for a path.
use Rattle.std.proofs.Common.{◌≡◌, ℕ, suc, ◌+◌, ◌<◌, true, false, cond, List, [], ◌∷◌, Result, Ok, Err, length, get_or, refl, sym, ap, ◌∙◌, nat_eq, ◌||◌, arith, inl, inr}
use Rattle.std.specs.Prelude.{is_ok}
use Rattle.std.specs.List.{list_any, filter}
use Rattle.std.specs.List.Sorted.{IsBinarySearchResult, IsSearchInRange, IsNonDecreasingBy, IsPartitionPoint}
use Rattle.std.specs.Ordering.{is_le, is_lt, ordering_index, ordering_reverse}
use Rattle.std.specs.declared.cmp.Ordering.{Ordering}
use Rattle.std.specs.declared.cmp.Ordering.TheVariants.{Less, Equal, Greater}
use Rattle.std.specs.Cmp.Lexicographic.{pointwise, nat_list_eq_equiv}
use Rattle.std.proofs.lemmas.Bool.{cases_lt}
use Rattle.std.proofs.lemmas.Cmp.{nat_list_cmp_total, tied_itself}
use Rattle.std.proofs.lemmas.List.{get_or_default}
use Rattle.std.proofs.lemmas.List.Folds.{list_any_at}
use Rattle.std.proofs.lemmas.List.Sorted.{searchable_from_sorted}
use Rattle.prodash_base.specs.declared.progress.Row.{Row}
use Rattle.prodash_base.specs.declared.throughput.kept.Kept.{Kept}
use Rattle.prodash_base.specs.Path.{Path, path_cmp}
use Rattle.prodash_base.specs.Rows.{rows_of}
use Rattle.prodash_base.specs.Trackers.{is_listed}
use Rattle.prodash_base.specs.plumbing.KeptTables.{NeverDescends}
use Rattle.prodash_base.specs.plumbing.KeyHash as keys
use Rattle.prodash_base.proofs.PathMaps.{same_path}

pub listed_by_key : (path : Path) (rows : List Row) → list_any (λ row. pointwise nat_eq path row.key) rows ≡ is_listed (rows_of rows) path
listed_by_key path [] = refl
listed_by_key path (row ∷ rows) = ap (λ b. pointwise nat_eq path row.key || b) (listed_by_key path rows)

-- no row is found among rows none of which ties
unlisted : (path : Path) (rows : List Row) → ((k : ℕ) (d : Row) → k < length rows → path_cmp (get_or rows k d).key path ≡ Equal → ⊥) → is_listed (rows_of rows) path ≡ false
unlisted path [] none = refl
unlisted path (row ∷ rows) none =
    elim (pointwise nat_eq path row.key) as (λ b. pointwise nat_eq path row.key ≡ b → (b || is_listed (rows_of rows) path) ≡ false) [
      | true ↦ λ e. absurd (none 0 row (omega arith) (ap (λ q. path_cmp q path) (sym (keys.same_path path row.key e)) ∙ tied_itself nat_list_cmp_total path))
      | false ↦ λ e. unlisted path rows (λ k d l. none (suc k) d (omega arith))
    ] refl

not_less : (o : Ordering) → is_le o ≡ true → is_lt (ordering_reverse o) ≡ false
not_less Less h = refl
not_less Equal h = refl
not_less Greater h = cc

-- rows in order can be searched by halving
in_order : (path : Path) (rows : List Row) → NeverDescends rows → IsNonDecreasingBy (λ (row : Row). ordering_index (path_cmp row.key path)) rows
in_order path rows up = searchable_from_sorted nat_list_cmp_total (λ (row : Row). row.key) rows path (λ k d a b.
    ap is_lt (nat_list_cmp_total.antisymm (get_or rows (k + 1) d).key (get_or rows k d).key) ∙ not_less (path_cmp (get_or rows k d).key (get_or rows (k + 1) d).key) (up k d b))

no_tie : (path : Path) (rows : List Row) (i : ℕ) → IsPartitionPoint (λ (row : Row). path_cmp row.key path ≡ Less) (λ (row : Row). path_cmp row.key path ≡ Greater) rows i
    → (k : ℕ) (d : Row) → k < length rows → path_cmp (get_or rows k d).key path ≡ Equal → ⊥
no_tie path rows i p k d l e = elim (cases_lt k i) [
  | inl lt ↦ let before = p.0 k d (omega arith) lt in cc
  | inr ge ↦ let after = p.1 k d ge l in cc
]

-- a search by halving finds a row exactly if one is listed
pub found : (path : Path) (rows : List Row) (r : Result ℕ ℕ) → NeverDescends rows → IsSearchInRange r (length rows) → IsBinarySearchResult (λ (row : Row). path_cmp row.key path) rows r
    → is_ok r ≡ is_listed (rows_of rows) path
found path [] (Ok i) up within at = absurd (omega arith)
found path (row ∷ rows) (Ok i) up within at =
    sym (sym (listed_by_key path (row ∷ rows)) ∙ list_any_at (λ (r : Row). pointwise nat_eq path r.key) (row ∷ rows) i row within
    (ap (pointwise nat_eq path) (same_path _ path (at row)) ∙ nat_list_eq_equiv.refl path))
found path rows (Err i) up within at = sym (unlisted path rows (no_tie path rows i (at (in_order path rows up))))

-- the path of a row is listed
pub listed_at : (path : Path) (rows : List Row) (i : ℕ) (row : Row) → i < length rows → path ≡ (get_or rows i row).key → is_listed (rows_of rows) path ≡ true
listed_at path rows i row lt e =
    sym (listed_by_key path rows) ∙ list_any_at (λ (r : Row). pointwise nat_eq path r.key) rows i row lt
    (ap (pointwise nat_eq path) (sym e) ∙ nat_list_eq_equiv.refl path)

-- the keys before an index are listed
abbrev pub AreListed : List Row → List Kept → ℕ → Type 0
AreListed rows kept n = (k : ℕ) (d : Kept) → k < n → is_listed (rows_of rows) (get_or kept k d).key ≡ true

-- keys that are all listed are kept
pub all_listed : (rows : List Row) (kept : List Kept) → AreListed rows kept (length kept) → filter (λ k. is_listed (rows_of rows) k.key) kept ≡ kept
all_listed rows [] h = refl
all_listed rows (x ∷ kept) h =
    let rest : List Kept = filter (λ k. is_listed (rows_of rows) k.key) kept in
    ap (λ b. cond b (x ∷ rest) rest) (h 0 x (omega arith)) ∙ ap (λ xs. x ∷ xs) (all_listed rows kept (λ k d lt. h (suc k) d (omega arith)))

pub listed_more : (rows : List Row) (kept : List Kept) (n i : ℕ) (row : Row) (x : Kept) → AreListed rows kept n → i < length rows → row ≡ get_or rows i row → n < length kept → x.key ≡ row.key → x ≡ get_or kept n x
    → AreListed rows kept (n + 1)
listed_more rows kept n i row x h lt is within e at k d low = elim (cases_lt k n) [
  | inl before ↦ h k d before
  | inr last ↦
      let on : k ≡ n = omega (arith, low, last) in
      let here : get_or kept k d ≡ x = ap (λ m. get_or kept m d) on ∙ get_or_default kept n d x within ∙ sym at in
      listed_at (get_or kept k d).key rows i row lt (ap (λ y. y.key) here ∙ e ∙ ap (λ r. r.key) is)
]
