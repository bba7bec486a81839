-- A list sorted by path of what is known of tasks, and the place of a path in it.
use Rattle.std.proofs.Common.{◌≡◌, ℕ, zero, suc, ◌+◌, ◌-◌, ◌++◌, ◌<◌, ◌≤◌, true, false, cond, [], ◌∷◌, length, get_or, Some, None, refl, sym, ap, subst, ◌∙◌, arith}
use Rattle.std.specs.Prelude.{T, insert, slice_set, Result, Ok, Err, IfOk, IfErr}
use Rattle.std.specs.List.{AllWithin}
use Rattle.std.specs.List.Sorted.{IsNonDecreasingBy, IsBinarySearchResult, IsSearchInRange}
use Rattle.std.specs.Ordering.{is_eq, is_lt, ordering_index}
use Rattle.std.specs.declared.cmp.Ordering.{Ordering}
use Rattle.std.specs.declared.cmp.Ordering.TheVariants.{Less, Equal, Greater}
use Rattle.std.specs.FinMap.{find, put}
use Rattle.std.specs.FinMap.Entries.{by_order, below_all, is_sorted-put}
use Rattle.std.proofs.lemmas.Cmp.{nat_list_cmp_total}
use Rattle.std.proofs.lemmas.List.Sorted.{searchable_from_sorted}
use Rattle.prodash_base.specs.Path.{Path, path_cmp}
use Rattle.prodash_base.specs.Timers.{Timing, Timings}
use Rattle.prodash_base.specs.plumbing.TimedTables.{AreSorted, IsAt, IsNewAt, is_past_last}
use Rattle.prodash_base.proofs.BranchLaws.{turned}
use Rattle.prodash_base.proofs.PathMaps.{same_path}
use Rattle.prodash_base.proofs.KeptTables.{is_less, first, second, same, turned_back}

-- a path with what is known of it
abbrev pub Entry : Type 0
Entry = Path × Timing

-- the paths before an index are less than this one
abbrev AreLess : Timings → Path → ℕ → Type 0
AreLess es path index = AllWithin (λ (e : Entry). path_cmp e.0 path ≡ Less) es 0 index

later : (x : Entry) (es : Timings) (path : Path) (index : ℕ) → AreLess (x ∷ es) path (suc index) → AreLess es path index
later x es path index h = λ k d l m. h (suc k) d (omega arith) (omega arith)

-- the entries with one more, by how its path compares with the first
by_first : (y : Entry) (es : Timings) (path : Path) (t : Timing) (o : Ordering) → path_cmp path y.0 ≡ o
    → put path_cmp path t (y ∷ es) ≡ by_order o ((path, t) ∷ y ∷ es) ((y.0, t) ∷ es) (y ∷ put path_cmp path t es)
by_first y es path t o e = ap (λ r. by_order r ((path, t) ∷ y ∷ es) ((y.0, t) ∷ es) (y ∷ put path_cmp path t es)) e

-- an insertion at the place of a new path
put_new : (es : Timings) (index : ℕ) (path : Path) (t : Timing) (d : Entry) → AreLess es path index → (index < length es → path_cmp path (get_or es index d).0 ≡ Less) → index ≤ length es
    → insert es index (path, t) ≡ put path_cmp path t es
put_new [] zero path t d h n l = refl
put_new [] (suc index) path t d h n l = absurd (omega arith)
put_new (y ∷ es) zero path t d h n l = sym (by_first y es path t Less (n (omega arith)))
put_new (y ∷ es) (suc index) path t d h n l =
    ap (λ xs. y ∷ xs) (put_new es index path t d (later y es path index h) (λ m. n (omega arith)) (omega arith))
    ∙ sym (by_first y es path t Greater (turned y.0 path (h 0 d (omega arith) (omega arith))))

-- a write at the place of a known path
put_over : (es : Timings) (index : ℕ) (path : Path) (t : Timing) (d : Entry) → AreLess es path index → index < length es → (get_or es index d).0 ≡ path
    → slice_set es index (path, t) ≡ put path_cmp path t es
put_over [] index path t d h l e = absurd (omega arith)
put_over (y ∷ es) zero path t d h l e =
    ap (λ (k : Path). (k, t) ∷ es) (sym e) ∙ sym (by_first y es path t Equal (same path y.0 (sym e)))
put_over (y ∷ es) (suc index) path t d h l e =
    ap (λ xs. y ∷ xs) (put_over es index path t d (later y es path index h) (omega arith) e)
    ∙ sym (by_first y es path t Greater (turned y.0 path (h 0 d (omega arith) (omega arith))))

-- a path in a list, by how it compares with the first
found_by : (y : Entry) (es : Timings) (path : Path) (o : Ordering) → path_cmp path y.0 ≡ o
    → find path_cmp path (y ∷ es) ≡ cond (is_eq o) (Some y.1) (find path_cmp path es)
found_by y es path o e = ap (λ r. cond (is_eq r) (Some y.1) (find path_cmp path es)) e

find_over : (es : Timings) (index : ℕ) (d : Entry) (path : Path) → AreLess es path index → index < length es → (get_or es index d).0 ≡ path
    → find path_cmp path es ≡ Some (get_or es index d).1
find_over [] index d path h l e = absurd (omega arith)
find_over (y ∷ es) zero d path h l e = found_by y es path Equal (same path y.0 (sym e))
find_over (y ∷ es) (suc index) d path h l e =
    found_by y es path Greater (turned y.0 path (h 0 d (omega arith) (omega arith))) ∙ find_over es index d path (later y es path index h) (omega arith) e

above_first : (es : Timings) (low : Path) (i : ℕ) (d : Entry) → T (below_all path_cmp low es) → i < length es → path_cmp low (get_or es i d).0 ≡ Less
above_first [] low i d b l = absurd (omega arith)
above_first (y ∷ es) low zero d b l = is_less _ (first _ _ b)
above_first (y ∷ es) low (suc i) d b l = above_first es low i d (second (is_lt (path_cmp low y.0)) _ b) (omega arith)

-- the paths before a known path are less
less_before : (es : Timings) (index : ℕ) (x : Entry) (path : Path) → AreSorted es → index < length es → (get_or es index x).0 ≡ path → AreLess es path index
less_before [] index x path r l e k d low m = absurd (omega arith)
less_before (y ∷ es) zero x path r l e k d low m = absurd (omega arith)
less_before (y ∷ es) (suc index) x path r l e zero d low m = subst (λ q. path_cmp y.0 q ≡ Less) e (above_first es y.0 index x (first _ _ r) (omega arith))
less_before (y ∷ es) (suc index) x path r l e (suc k) d low m =
    less_before es index x path (second (below_all path_cmp y.0 es) _ r) (omega arith) e k d (omega arith) (omega arith)

find_before : (es : Timings) (low path : Path) → path_cmp path low ≡ Less → T (below_all path_cmp low es) → find path_cmp path es ≡ None
find_before [] low path l b = refl
find_before (y ∷ es) low path l b =
    found_by y es path Less (nat_list_cmp_total.trans path low y.0 l (is_less _ (first _ _ b)))
    ∙ find_before es low path l (second (is_lt (path_cmp low y.0)) _ b)

-- nothing is known of a path that isn't at its place
find_new : (es : Timings) (index : ℕ) (x : Entry) (path : Path) → AreSorted es → AreLess es path index → (index < length es → path_cmp path (get_or es index x).0 ≡ Less)
    → find path_cmp path es ≡ None
find_new [] index x path r h n = refl
find_new (y ∷ es) zero x path r h n = let under = n (omega arith) in found_by y es path Less under ∙ find_before es y.0 path under (first _ _ r)
find_new (y ∷ es) (suc index) x path r h n =
    found_by y es path Greater (turned y.0 path (h 0 x (omega arith) (omega arith)))
    ∙ find_new es index x path (second (below_all path_cmp y.0 es) _ r) (later y es path index h) (λ m. n (omega arith))

pub sorted-put : (es : Timings) (path : Path) (t : Timing) → AreSorted es → AreSorted (put path_cmp path t es)
sorted-put es path t r = is_sorted-put path_cmp nat_list_cmp_total path t es r

-- what is known of a path at an index
pub find_known : (es : Timings) (index : ℕ) (d : Entry) (path : Path) → AreSorted es → IsAt es path index → find path_cmp path es ≡ Some (get_or es index d).1
find_known es index d path r at = find_over es index d path (less_before es index d path r at.within (at.path_is d)) at.within (at.path_is d)

is_before : (es : Timings) (path : Path) (index : ℕ) (d : Entry) → IsNewAt es path index → index < length es → path_cmp path (get_or es index d).0 ≡ Less
is_before es path index d new l = turned_back (get_or es index d).0 path (new.place.1 index d (omega arith) l)

-- nothing is known of a new path
pub find_none : (es : Timings) (index : ℕ) (path : Path) → AreSorted es → IsNewAt es path index → find path_cmp path es ≡ None
find_none [] index path r new = refl
find_none (y ∷ es) index path r new = find_new (y ∷ es) index y path r new.place.0 (is_before (y ∷ es) path index y new)

-- the list after a write at the place of a known path
pub put_known : (es : Timings) (index : ℕ) (x : Entry) → AreSorted es → IsAt es x.0 index → slice_set es index x ≡ put path_cmp x.0 x.1 es
put_known es index x r at = put_over es index x.0 x.1 x (less_before es index x x.0 r at.within (at.path_is x)) at.within (at.path_is x)

-- the list after an insertion at the place of a new path
pub put_first : (es : Timings) (index : ℕ) (x : Entry) → IsNewAt es x.0 index → insert es index x ≡ put path_cmp x.0 x.1 es
put_first es index x new = put_new es index x.0 x.1 x new.place.0 (is_before es x.0 index x new) new.within

-- whether a path is greater than the last one, by its index
pub past_last : (es : Timings) (path : Path) (d : Entry) → 0 < length es → is_lt (path_cmp (get_or es (length es - 1) d).0 path) ≡ is_past_last es path
past_last [] path d l = absurd (omega arith)
past_last (y ∷ []) path d l = refl
past_last (y ∷ z ∷ es) path d l =
    ap (λ i. is_lt (path_cmp (get_or (y ∷ z ∷ es) i d).0 path)) (let next : length (y ∷ z ∷ es) - 1 ≡ suc (length (z ∷ es) - 1) = omega arith in next)
    ∙ past_last (z ∷ es) path d (omega arith)

-- a path that is greater than the last one is greater than all
above_all : (y : Entry) (es : Timings) (path : Path) → AreSorted (y ∷ es) → is_past_last (y ∷ es) path ≡ true → path_cmp y.0 path ≡ Less
above_all y [] path r h = is_less _ (subst T (sym h) tt)
above_all y (z ∷ es) path r h =
    nat_list_cmp_total.trans y.0 z.0 path (above_first (z ∷ es) y.0 0 y (first _ _ r) (omega arith))
    (above_all z es path (second (below_all path_cmp y.0 (z ∷ es)) _ r) h)

past_others : (y : Entry) (es : Timings) (path : Path) → is_past_last (y ∷ es) path ≡ true → is_past_last es path ≡ true
past_others y [] path h = refl
past_others y (z ∷ es) path h = h

-- an addition of a path that is greater than the last one
pub put_last : (es : Timings) (path : Path) (t : Timing) → AreSorted es → is_past_last es path ≡ true → es ++ (path, t) ∷ [] ≡ put path_cmp path t es
put_last [] path t r h = refl
put_last (y ∷ es) path t r h =
    ap (λ xs. y ∷ xs) (put_last es path t (second (below_all path_cmp y.0 es) _ r) (past_others y es path h))
    ∙ sym (by_first y es path t Greater (turned y.0 path (above_all y es path r h)))

ascends : (es : Timings) (k : ℕ) (d : Entry) → AreSorted es → suc k < length es → path_cmp (get_or es k d).0 (get_or es (suc k) d).0 ≡ Less
ascends [] k d r l = absurd (omega arith)
ascends (y ∷ es) zero d r l = above_first es y.0 0 d (first _ _ r) (omega arith)
ascends (y ∷ es) (suc k) d r l = ascends es k d (second (below_all path_cmp y.0 es) _ r) (omega arith)

not_less : (es : Timings) (k : ℕ) (d : Entry) → AreSorted es → k + 1 < length es → is_lt (path_cmp (get_or es (k + 1) d).0 (get_or es k d).0) ≡ false
not_less es k d r l =
    let next : suc k ≡ k + 1 = omega arith in
    subst (λ n. is_lt (path_cmp (get_or es n d).0 (get_or es k d).0) ≡ false) next (ap is_lt (turned (get_or es k d).0 (get_or es (suc k) d).0 (ascends es k d r (omega arith))))

-- a sorted list can be searched by halving
searchable : (es : Timings) (path : Path) → AreSorted es → IsNonDecreasingBy (λ (e : Entry). ordering_index (path_cmp e.0 path)) es
searchable es path r = searchable_from_sorted nat_list_cmp_total (λ (e : Entry). e.0) es path (λ k d a b. not_less es k d r b)

pub found_at : (es : Timings) (path : Path) (r : Result ℕ ℕ) → IsSearchInRange r (length es) → IsBinarySearchResult (λ (e : Entry). path_cmp e.0 path) es r
    → IfOk r (λ index. IsAt es path index)
found_at es path (Ok i) within at = record { within = within; path_is = λ d. same_path _ path (at d) }
found_at es path (Err i) within at = tt

pub new_at : (es : Timings) (path : Path) (r : Result ℕ ℕ) → AreSorted es → IsSearchInRange r (length es) → IsBinarySearchResult (λ (e : Entry). path_cmp e.0 path) es r
    → IfErr r (λ index. IsNewAt es path index)
new_at es path (Ok i) sorted within at = tt
new_at es path (Err i) sorted within at = record { within = within; place = at (searchable es path sorted) }
