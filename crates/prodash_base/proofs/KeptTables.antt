-- A list sorted by key of what is kept, and the place of a key in it.
use Rattle.std.proofs.Common.{◌≡◌, ℕ, zero, suc, ◌+◌, ◌<◌, ◌≤◌, Bool, true, false, cond, List, [], ◌∷◌, map, length, get_or, Some, None, refl, sym, ap, subst, ◌∙◌, arith, ◌&&◌}
use Rattle.std.specs.Prelude.{T, insert, slice_set}
use Rattle.std.specs.List.{AllWithin, AllZip, filter}
use Rattle.std.specs.List.Sorted.{IsNonDecreasingBy, IsPartitionPoint}
use Rattle.std.specs.Ordering.{eq_by_cmp, is_eq, is_lt, ordering_index, ordering_reverse}
use Rattle.std.specs.declared.cmp.Ordering.{Ordering}
use Rattle.std.specs.declared.cmp.Ordering.TheVariants.{Less, Equal, Greater}
use Rattle.std.specs.FinMap as finite
use Rattle.std.specs.FinMap.{find, put, is_sorted, get, get-from_entries, get-insert, retain_keys, get-retain_keys}
use Rattle.std.specs.FinMap.Entries.{by_order, below_all, find-put, is_sorted-put, find-where_key, where_key, is_sorted-where_key}
use Rattle.std.proofs.lemmas.Cmp.{nat_list_cmp_total, tied_itself}
use Rattle.std.proofs.lemmas.List.Sorted.{searchable_from_sorted}
use Rattle.prodash_base.specs.Path.{Path, path_cmp}
use Rattle.prodash_base.specs.Held.{Summary}
use Rattle.prodash_base.specs.plumbing.KeptTables.{summary_of, entry_of, summaries_of, stored_of, stored_entry, stored, AreSorted, IsCopy}
use Rattle.prodash_base.specs.declared.throughput.kept.Kept.{Kept}
use Rattle.prodash_base.proofs.BranchLaws.{turned}
use Rattle.prodash_base.proofs.PathMaps.{same_path, same_table}

pub is_less : (o : Ordering) → T (is_lt o) → o ≡ Less
is_less Less h = refl
is_less Equal h = absurd h
is_less Greater h = absurd h

pub first : (a b : Bool) → T (a && b) → T a
first true b p = tt
first false b p = p

pub second : (a b : Bool) → T (a && b) → T b
second true b p = p
second false b p = absurd p

pub same : (p q : Path) → p ≡ q → path_cmp p q ≡ Equal
same p q e = ap (path_cmp p) (sym e) ∙ tied_itself nat_list_cmp_total p

-- the keys before an index are less than this one
abbrev AreLess : List Kept → Path → ℕ → Type 0
AreLess kept key index = AllWithin (λ k. path_cmp k.key key ≡ Less) kept 0 index

later : (x : Kept) (kept : List Kept) (key : Path) (index : ℕ) → AreLess (x ∷ kept) key (suc index) → AreLess kept key index
later x kept key index h = λ k d l m. h (suc k) d (omega arith) (omega arith)

-- the entries with one more, by how its key compares with the first
by_first : (y : Kept) (kept : List Kept) (x : Kept) (o : Ordering) → path_cmp x.key y.key ≡ o
    → put path_cmp x.key (summary_of x) (map entry_of (y ∷ kept)) ≡ by_order o (entry_of x ∷ map entry_of (y ∷ kept)) ((y.key, summary_of x) ∷ map entry_of kept) (entry_of y ∷ put path_cmp x.key (summary_of x) (map entry_of kept))
by_first y kept x o e =
    ap (λ r. by_order r (entry_of x ∷ map entry_of (y ∷ kept)) ((y.key, summary_of x) ∷ map entry_of kept) (entry_of y ∷ put path_cmp x.key (summary_of x) (map entry_of kept))) e

-- an insertion at the place of a new key
put_new : (kept : List Kept) (index : ℕ) (x : Kept) → AreLess kept x.key index → (index < length kept → path_cmp x.key (get_or kept index x).key ≡ Less) → index ≤ length kept
    → map entry_of (insert kept index x) ≡ put path_cmp x.key (summary_of x) (map entry_of kept)
put_new [] zero x h n l = refl
put_new [] (suc index) x h n l = absurd (omega arith)
put_new (y ∷ kept) zero x h n l = sym (by_first y kept x Less (n (omega arith)))
put_new (y ∷ kept) (suc index) x h n l =
    ap (λ es. entry_of y ∷ es) (put_new kept index x (later y kept x.key index h) (λ m. n (omega arith)) (omega arith))
    ∙ sym (by_first y kept x Greater (turned y.key x.key (h 0 x (omega arith) (omega arith))))

-- a write at the place of a known key
put_over : (kept : List Kept) (index : ℕ) (x : Kept) → AreLess kept x.key index → index < length kept → (get_or kept index x).key ≡ x.key
    → map entry_of (slice_set kept index x) ≡ put path_cmp x.key (summary_of x) (map entry_of kept)
put_over [] index x h l e = absurd (omega arith)
put_over (y ∷ kept) zero x h l e =
    ap (λ (k : Path). (k, summary_of x) ∷ map entry_of kept) (sym e) ∙ sym (by_first y kept x Equal (same x.key y.key (sym e)))
put_over (y ∷ kept) (suc index) x h l e =
    ap (λ es. entry_of y ∷ es) (put_over kept index x (later y kept x.key index h) (omega arith) e)
    ∙ sym (by_first y kept x Greater (turned y.key x.key (h 0 x (omega arith) (omega arith))))

-- each key with what `f` gives of it
abbrev entries_by : (Kept → Summary) → List Kept → List (Path × Summary)
entries_by f kept = map (λ k. (k.key, f k)) kept

-- a key in a list, by how it compares with the first
found_by : (f : Kept → Summary) (y : Kept) (kept : List Kept) (key : Path) (o : Ordering) → path_cmp key y.key ≡ o
    → find path_cmp key (entries_by f (y ∷ kept)) ≡ cond (is_eq o) (Some (f y)) (find path_cmp key (entries_by f kept))
found_by f y kept key o e = ap (λ r. cond (is_eq r) (Some (f y)) (find path_cmp key (entries_by f kept))) e

find_over : (f : Kept → Summary) (kept : List Kept) (index : ℕ) (x : Kept) (key : Path) → AreLess kept key index → index < length kept → (get_or kept index x).key ≡ key
    → find path_cmp key (entries_by f kept) ≡ Some (f (get_or kept index x))
find_over f [] index x key h l e = absurd (omega arith)
find_over f (y ∷ kept) zero x key h l e = found_by f y kept key Equal (same key y.key (sym e))
find_over f (y ∷ kept) (suc index) x key h l e =
    found_by f y kept key Greater (turned y.key key (h 0 x (omega arith) (omega arith))) ∙ find_over f kept index x key (later y kept key index h) (omega arith) e

above_first : (kept : List Kept) (low : Path) (i : ℕ) (d : Kept) → T (below_all path_cmp low (map entry_of kept)) → i < length kept → path_cmp low (get_or kept i d).key ≡ Less
above_first [] low i d b l = absurd (omega arith)
above_first (y ∷ kept) low zero d b l = is_less _ (first _ _ b)
above_first (y ∷ kept) low (suc i) d b l = above_first kept low i d (second (is_lt (path_cmp low y.key)) _ b) (omega arith)

-- the keys before a known key are less
less_before : (kept : List Kept) (index : ℕ) (x : Kept) (key : Path) → AreSorted kept → index < length kept → (get_or kept index x).key ≡ key → AreLess kept key index
less_before [] index x key r l e k d low m = absurd (omega arith)
less_before (y ∷ kept) zero x key r l e k d low m = absurd (omega arith)
less_before (y ∷ kept) (suc index) x key r l e zero d low m = subst (λ q. path_cmp y.key q ≡ Less) e (above_first kept y.key index x (first _ _ r) (omega arith))
less_before (y ∷ kept) (suc index) x key r l e (suc k) d low m =
    less_before kept index x key (second (below_all path_cmp y.key (map entry_of kept)) _ r) (omega arith) e k d (omega arith) (omega arith)

find_before : (f : Kept → Summary) (kept : List Kept) (low key : Path) → path_cmp key low ≡ Less → T (below_all path_cmp low (map entry_of kept)) → find path_cmp key (entries_by f kept) ≡ None
find_before f [] low key l b = refl
find_before f (y ∷ kept) low key l b =
    found_by f y kept key Less (nat_list_cmp_total.trans key low y.key l (is_less _ (first _ _ b)))
    ∙ find_before f kept low key l (second (is_lt (path_cmp low y.key)) _ b)

-- nothing is kept of a key that isn't at its place
find_new : (f : Kept → Summary) (kept : List Kept) (index : ℕ) (x : Kept) (key : Path) → AreSorted kept → AreLess kept key index → (index < length kept → path_cmp key (get_or kept index x).key ≡ Less)
    → find path_cmp key (entries_by f kept) ≡ None
find_new f [] index x key r h n = refl
find_new f (y ∷ kept) zero x key r h n = let under = n (omega arith) in found_by f y kept key Less under ∙ find_before f kept y.key key under (first _ _ r)
find_new f (y ∷ kept) (suc index) x key r h n =
    found_by f y kept key Greater (turned y.key key (h 0 x (omega arith) (omega arith)))
    ∙ find_new f kept index x key (second (below_all path_cmp y.key (map entry_of kept)) _ r) (later y kept key index h) (λ m. n (omega arith))

get_summaries : (kept : List Kept) (q : Path) → get (summaries_of kept) q ≡ find path_cmp q (map entry_of kept)
get_summaries kept q = get-from_entries nat_list_cmp_total (map entry_of kept) q

-- a list in which one key was put shows the map with that key
pub summaries-put : (kept new : List Kept) (key : Path) (s : Summary) → map entry_of new ≡ put path_cmp key s (map entry_of kept) → summaries_of new ≡ finite.insert (summaries_of kept) key s
summaries-put kept new key s e = same_table _ _ (λ q.
    get_summaries new q ∙ ap (find path_cmp q) e ∙ find-put path_cmp nat_list_cmp_total q key s (map entry_of kept)
    ∙ sym (get-insert nat_list_cmp_total (summaries_of kept) key s q ∙ ap (cond (eq_by_cmp path_cmp q key) (Some s)) (get_summaries kept q)))

pub sorted-put : (kept new : List Kept) (key : Path) (s : Summary) → map entry_of new ≡ put path_cmp key s (map entry_of kept) → AreSorted kept → AreSorted new
sorted-put kept new key s e r = subst (λ es. T (is_sorted path_cmp es)) (sym e) (is_sorted-put path_cmp nat_list_cmp_total key s (map entry_of kept) r)

-- what is kept of a key at an index
pub get_known : (kept : List Kept) (index : ℕ) (x : Kept) (key : Path) → AreSorted kept → index < length kept → (get_or kept index x).key ≡ key
    → get (summaries_of kept) key ≡ Some (summary_of (get_or kept index x))
get_known kept index x key r l e = get_summaries kept key ∙ find_over summary_of kept index x key (less_before kept index x key r l e) l e

get_stored : (kept : List Kept) (q : Path) → get (stored kept) q ≡ find path_cmp q (map stored_entry kept)
get_stored kept q = get-from_entries nat_list_cmp_total (map stored_entry kept) q

-- what is in memory of a key at an index
pub stored_known : (kept : List Kept) (index : ℕ) (x : Kept) (key : Path) → AreSorted kept → index < length kept → (get_or kept index x).key ≡ key
    → get (stored kept) key ≡ Some (stored_of (get_or kept index x))
stored_known kept index x key r l e = get_stored kept key ∙ find_over stored_of kept index x key (less_before kept index x key r l e) l e

same_default : (kept : List Kept) (index : ℕ) (d e : Kept) → index < length kept → get_or kept index d ≡ get_or kept index e
same_default [] index d e l = absurd (omega arith)
same_default (y ∷ kept) zero d e l = refl
same_default (y ∷ kept) (suc index) d e l = same_default kept index d e (omega arith)

-- the list after one more observation of a known key
pub put_known : (kept new : List Kept) (index : ℕ) (d : Kept) (key : Path) → AreSorted kept → index < length kept → (get_or kept index d).key ≡ key
    → new ≡ slice_set kept index (get_or new index d) → (get_or new index d).key ≡ (get_or kept index d).key
    → map entry_of new ≡ put path_cmp key (summary_of (get_or new index d)) (map entry_of kept)
put_known kept new index d key r l e set keys =
    let x = get_or new index d in
    let is_key : x.key ≡ key = keys ∙ e in
    ap (map entry_of) set
    ∙ put_over kept index x (subst (λ k. AreLess kept k index) (sym is_key) (less_before kept index d key r l e)) l (ap (λ k. k.key) (same_default kept index x d l) ∙ e ∙ sym is_key)
    ∙ ap (λ k. put path_cmp k (summary_of x) (map entry_of kept)) is_key

-- the place that a search finds for a new key
abbrev pub IsNewPlace : List Kept → Path → ℕ → Type 0
IsNewPlace kept key index = IsPartitionPoint (λ k. path_cmp k.key key ≡ Less) (λ k. path_cmp k.key key ≡ Greater) kept index

-- the order of paths, turned back
pub turned_back : (p q : Path) → path_cmp p q ≡ Greater → path_cmp q p ≡ Less
turned_back p q h = nat_list_cmp_total.antisymm q p ∙ ap ordering_reverse h

is_before : (kept : List Kept) (key : Path) (index : ℕ) (x : Kept) → IsNewPlace kept key index → index < length kept → path_cmp key (get_or kept index x).key ≡ Less
is_before kept key index x p l = turned_back (get_or kept index x).key key (p.1 index x (omega arith) l)

-- the list after a first observation of a new key
pub put_first : (kept : List Kept) (index : ℕ) (key : Path) (x : Kept) → IsNewPlace kept key index → index ≤ length kept → x.key ≡ key
    → map entry_of (insert kept index x) ≡ put path_cmp key (summary_of x) (map entry_of kept)
put_first kept index key x p l e =
    put_new kept index x (subst (λ k. AreLess kept k index) (sym e) p.0) (λ m. subst (λ k. path_cmp k (get_or kept index x).key ≡ Less) (sym e) (is_before kept key index x p m)) l
    ∙ ap (λ k. put path_cmp k (summary_of x) (map entry_of kept)) e

-- nothing is kept of a new key
pub get_new : (kept : List Kept) (index : ℕ) (key : Path) → AreSorted kept → IsNewPlace kept key index → get (summaries_of kept) key ≡ None
get_new [] index key r p = get_summaries [] key
get_new (y ∷ kept) index key r p = get_summaries (y ∷ kept) key ∙ find_new summary_of (y ∷ kept) index y key r p.0 (is_before (y ∷ kept) key index y p)

-- nor is anything in memory
pub stored_new : (kept : List Kept) (index : ℕ) (key : Path) → AreSorted kept → IsNewPlace kept key index → get (stored kept) key ≡ None
stored_new [] index key r p = get_stored [] key
stored_new (y ∷ kept) index key r p = get_stored (y ∷ kept) key ∙ find_new stored_of (y ∷ kept) index y key r p.0 (is_before (y ∷ kept) key index y p)

ascends : (kept : List Kept) (k : ℕ) (d : Kept) → AreSorted kept → suc k < length kept → path_cmp (get_or kept k d).key (get_or kept (suc k) d).key ≡ Less
ascends [] k d r l = absurd (omega arith)
ascends (y ∷ kept) zero d r l = above_first kept y.key 0 d (first _ _ r) (omega arith)
ascends (y ∷ kept) (suc k) d r l = ascends kept k d (second (below_all path_cmp y.key (map entry_of kept)) _ r) (omega arith)

not_less : (kept : List Kept) (k : ℕ) (d : Kept) → AreSorted kept → k + 1 < length kept → is_lt (path_cmp (get_or kept (k + 1) d).key (get_or kept k d).key) ≡ false
not_less kept k d r l =
    let next : suc k ≡ k + 1 = omega arith in
    subst (λ n. is_lt (path_cmp (get_or kept n d).key (get_or kept k d).key) ≡ false) next (ap is_lt (turned (get_or kept k d).key (get_or kept (suc k) d).key (ascends kept k d r (omega arith))))

-- a sorted list can be searched by halving
pub searchable : (kept : List Kept) (key : Path) → AreSorted kept → IsNonDecreasingBy (λ k. ordering_index (path_cmp k.key key)) kept
searchable kept key r = searchable_from_sorted nat_list_cmp_total (λ k. k.key) kept key (λ k d a b. not_less kept k d r b)

pub an_element : (kept : List Kept) → 0 < length kept → Kept
an_element [] h = absurd (omega arith)
an_element (y ∷ kept) h = y

map-filter : (p : Path → Bool) (kept : List Kept) → map entry_of (filter (λ k. p k.key) kept) ≡ where_key path_cmp p (map entry_of kept)
map-filter p [] = refl
map-filter p (k ∷ kept) =
    let rest : List Kept = filter (λ k. p k.key) kept in
    elim (p k.key) as (λ b. map entry_of (cond b (k ∷ rest) rest) ≡ cond b (entry_of k ∷ where_key path_cmp p (map entry_of kept)) (where_key path_cmp p (map entry_of kept))) [
      | true ↦ ap (λ es. entry_of k ∷ es) (map-filter p kept)
      | false ↦ map-filter p kept
    ]

-- the keys alone that pass a test
pub summaries-filter : (p : Path → Bool) (kept : List Kept) → summaries_of (filter (λ k. p k.key) kept) ≡ retain_keys (summaries_of kept) p
summaries-filter p kept = same_table _ _ (λ q.
    let alike = λ (x : Path) (e : path_cmp q x ≡ Equal). ap p (sym (same_path q x e)) in
    get_summaries (filter (λ k. p k.key) kept) q ∙ ap (find path_cmp q) (map-filter p kept)
    ∙ find-where_key path_cmp p q alike (map entry_of kept)
    ∙ ap (λ o. cond (p q) o None) (sym (get_summaries kept q)) ∙ sym (get-retain_keys (summaries_of kept) p q alike))

pub sorted-filter : (p : Path → Bool) (kept : List Kept) → AreSorted kept → AreSorted (filter (λ k. p k.key) kept)
sorted-filter p kept r = subst (λ es. T (is_sorted path_cmp es)) (sym (map-filter p kept)) (is_sorted-where_key path_cmp p (map entry_of kept) r)

-- elements that are seen alike, one by one
pub entries-cloned : (kept copies : List Kept) → AllZip (λ k l. IsCopy k l) kept copies → map entry_of copies ≡ map entry_of kept
entries-cloned [] [] h = refl
entries-cloned [] (y ∷ copies) h = absurd h
entries-cloned (x ∷ kept) [] h = absurd h
entries-cloned (x ∷ kept) (y ∷ copies) h = let first = h.0.entry in let rest = entries-cloned kept copies h.1 in cc (first, rest)
