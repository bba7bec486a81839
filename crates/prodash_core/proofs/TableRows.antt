-- Rows that show the tasks of an ordered map, one after another, show the table.
use Rattle.std.proofs.Common.{◌≡◌, ℕ, ◌+◌, ◌<◌, suc, zero, List, [], ◌∷◌, map, length, refl, sym, ap, subst, ◌∙◌, arith, get_or}
use Rattle.std.specs.Prelude.{Contains, IsSome, ◌↔◌}
use Rattle.std.specs.List.{AllZip}
use Rattle.std.specs.List.Sorted.{IsStrictlySortedBy}
use Rattle.std.specs.Ordering.{eq_by_cmp}
use Rattle.std.specs.Cmp.{eq_by_cmp_equiv}
use Rattle.std.specs.Cmp.Lexicographic.{texts_ties}
use Rattle.std.specs.Map.{keys_of}
use Rattle.std.specs.FinMap.{get, entries, from_sorted, get-from_entries, get-from_sorted, entries-from_sorted, same_map, len, len-entries, slice_cmp-IsAntisymmetric, nat_cmp-IsAntisymmetric}
use Rattle.std.specs.declared.cmp.Ordering.TheVariants.{Less}
use Rattle.std.proofs.lemmas.Cmp.{nat_list_cmp_total}
use Rattle.std.proofs.lemmas.List.{length-map}
use Rattle.std.proofs.lemmas.Map.Views.{Contains-keys_from_lookup, IsSome-lookup_from_Contains}
use Rattle.prodash_base.specs.Path.{Path, path_cmp}
use Rattle.prodash_base.specs.Rows.{PathRow}
use Rattle.prodash_base.specs.plumbing.KeyHash.{same_path}
use Rattle.prodash_core.specs.Tables.{TaskEntry, BoxedTask, pair_of, RowShows, RowsShow, ListsEachOnce}
use Rattle.prodash_core.proofs.TableChanges.{table_of, is_some-table_of, sorted_list}

-- entries have the paths of their tasks
pub keys-pairs : {C : Type 0} (es : List (Path × BoxedTask C)) → keys_of es ≡ keys_of (map pair_of es)
keys-pairs [] = refl
keys-pairs (e ∷ es) = ap (λ ks. e.0 ∷ ks) (keys-pairs es)

-- the entries of a table, in the order of their paths, are those of the map
entries-table_of : {C : Type 0} (es : List (Path × BoxedTask C)) → IsStrictlySortedBy path_cmp (keys_of es) → entries (table_of es) ≡ map pair_of es
entries-table_of es h =
    let s = sorted_list (map pair_of es) (subst (IsStrictlySortedBy path_cmp) (keys-pairs es) h) in
    let same : table_of es ≡ from_sorted (map pair_of es) = same_map nat_list_cmp_total (slice_cmp-IsAntisymmetric nat_cmp-IsAntisymmetric) _ _ (λ q.
    get-from_entries nat_list_cmp_total (map pair_of es) q ∙ sym (get-from_sorted path_cmp (map pair_of es) q s)) in
    ap entries same ∙ entries-from_sorted path_cmp (map pair_of es) s

pub len-table_of : {C : Type 0} (es : List (Path × BoxedTask C)) → IsStrictlySortedBy path_cmp (keys_of es) → len (table_of es) ≡ length es
len-table_of es h = len-entries (table_of es) ∙ ap length (entries-table_of es h) ∙ length-map es pair_of

-- each key is less than the next
ascending : (keys : List Path) → IsStrictlySortedBy path_cmp keys → (k : ℕ) (d : Path) → k + 1 < length keys → path_cmp (get_or keys k d) (get_or keys (k + 1) d) ≡ Less
unfolding IsStrictlySortedBy
ascending [] h k d l = absurd (omega arith)
ascending (x ∷ []) h k d l = absurd (omega arith)
ascending (x ∷ y ∷ ys) h zero d l = h.0.0
ascending (x ∷ y ∷ ys) h (suc k) d l =
    let place : suc k + 1 ≡ suc (k + 1) = omega arith in
    subst (λ n. path_cmp (get_or (y ∷ ys) k d) (get_or (x ∷ y ∷ ys) n d) ≡ Less) (sym place) (ascending (y ∷ ys) h.1 k d (omega arith))

-- rows have the paths of the entries that they show
pub shown_paths : {C : Type 0} (shows : C → ℕ → Type 0) (es : List (Path × TaskEntry C)) (rows : List PathRow) → AllZip (RowShows shows) es rows → keys_of rows ≡ keys_of es
shown_paths shows [] [] h = refl
shown_paths shows [] (r ∷ rows) h = absurd h
shown_paths shows (e ∷ es) [] h = absurd h
shown_paths shows (e ∷ es) (r ∷ rows) h = λ i. h.0.path i ∷ shown_paths shows es rows h.1 i

-- a table has a path if and only if the path is among its keys
lists_each : {C : Type 0} (es : List (Path × BoxedTask C)) (q : Path) → IsSome (get (table_of es) q) ↔ Contains (keys_of es) q
lists_each es q = (
  λ h. Contains-keys_from_lookup {eq = eq_by_cmp path_cmp} (λ x y e. same_path x y (texts_ties x y ∙ e)) q es (sym (is_some-table_of es q) ∙ h),
  λ c. is_some-table_of es q ∙ IsSome-lookup_from_Contains (eq_by_cmp_equiv nat_list_cmp_total) q es c,
)

pub rows_in_order : {C : Type 0} (shows : C → ℕ → Type 0) (es : List (Path × BoxedTask C)) (rows : List PathRow) → AllZip (RowShows shows) (map pair_of es) rows
    → IsStrictlySortedBy path_cmp (keys_of es) → RowsShow shows (table_of es) rows × ListsEachOnce (table_of es) rows
rows_in_order shows es rows h s =
    let paths = keys-pairs es ∙ sym (shown_paths shows (map pair_of es) rows h) in (
      subst (λ fs. AllZip (RowShows shows) fs rows) (sym (entries-table_of es s)) h,
      record {
        ascending = ascending (keys_of rows) (subst (IsStrictlySortedBy path_cmp) paths s);
        each = λ q. subst (λ ks. IsSome (get (table_of es) q) ↔ Contains ks q) paths (lists_each es q);
      },
    )

-- rows that show the table show the tasks of the map
pub shown_in_order : {C : Type 0} (shows : C → ℕ → Type 0) (es : List (Path × BoxedTask C)) (rows : List PathRow) → RowsShow shows (table_of es) rows
    → IsStrictlySortedBy path_cmp (keys_of es) → AllZip (RowShows shows) (map pair_of es) rows
shown_in_order shows es rows h s = subst (λ fs. AllZip (RowShows shows) fs rows) (entries-table_of es s) h
