-- What a table of tasks shows, after a change at one key.
use Rattle.std.proofs.Common.{◌≡◌, Bool, true, false, cond, List, [], ◌∷◌, map, Option, Some, None, refl, sym, ap, subst, ◌∙◌, is_some, ◌&&◌}
use Rattle.std.specs.Option.{option_map}
use Rattle.std.specs.Ordering.{eq_by_cmp, is_lt}
use Rattle.std.specs.Cmp.{eq_by_cmp_equiv}
use Rattle.std.proofs.lemmas.Cmp.{nat_list_cmp_total}
use Rattle.std.specs.Prelude.{T, nat_eq, ◌≢◌}
use Rattle.std.specs.Cmp.Lexicographic.{pointwise, texts_ties}
use Rattle.prodash_base.specs.plumbing.KeyHash.{same_path}
use Rattle.std.specs.List.{AllByRecursion, AllZip}
use Rattle.std.specs.List.Sorted.{IsStrictlySortedBy}
use Rattle.std.specs.declared.cmp.Ordering.TheVariants.{Less}
use Rattle.std.specs.FinMap.Entries.{below_all, is_sorted}
use Rattle.std.specs.Map.{keys_of}
use Rattle.std.specs.FinMap.{find, get, insert, remove, from_entries, get-from_entries, get-insert, get-remove, same_map, slice_cmp-IsAntisymmetric, nat_cmp-IsAntisymmetric}
use Rattle.std.specs.BTreeMap.{is_at}
use Rattle.std.specs.Map.{lookup}
use Rattle.prodash_base.specs.Path.{Path, path_cmp}
use Rattle.prodash_core.specs.Tables.{TaskEntry, Table, BoxedTask, entry_in, pair_of, change_found, change_at}

abbrev pub table_of : {C : Type 0} → List (Path × BoxedTask C) → Table C
table_of es = from_entries (map pair_of es)

-- the task at a path
abbrev pub task_at : {C : Type 0} → List (Path × BoxedTask C) → Path → Option (BoxedTask C)
task_at es q = lookup (is_at (path_cmp q)) es

-- the table of copies
pairs_of_copies : {C : Type 0} (es fs : List (Path × BoxedTask C)) → AllZip (λ e f. (f.0 ≡ e.0) × (entry_in f.1 ≡ entry_in e.1)) es fs → map pair_of fs ≡ map pair_of es
pairs_of_copies [] [] h = refl
pairs_of_copies [] (f ∷ fs) h = absurd h
pairs_of_copies (e ∷ es) [] h = absurd h
pairs_of_copies (e ∷ es) (f ∷ fs) h = λ i. (h.0.0 i, h.0.1 i) ∷ pairs_of_copies es fs h.1 i

pub table_of-copies : {C : Type 0} (es fs : List (Path × BoxedTask C)) → AllZip (λ e f. (f.0 ≡ e.0) × (entry_in f.1 ≡ entry_in e.1)) es fs → table_of fs ≡ table_of es
table_of-copies es fs h = ap from_entries (pairs_of_copies es fs h)

map_cond : {A B : Type 0} (f : A → B) (b : Bool) (x y : Option A) → option_map f (cond b x y) ≡ cond b (option_map f x) (option_map f y)
map_cond f true x y = refl
map_cond f false x y = refl

find_pair : {C : Type 0} (es : List (Path × BoxedTask C)) (q : Path) → find path_cmp q (map pair_of es) ≡ option_map entry_in (task_at es q)
find_pair [] q = refl
find_pair (e ∷ es) q =
    ap (cond (is_at (path_cmp q) e.0) (Some (entry_in e.1))) (find_pair es q) ∙ sym (map_cond entry_in (is_at (path_cmp q) e.0) (Some e.1) (task_at es q))

pub get-table_of : {C : Type 0} (es : List (Path × BoxedTask C)) (q : Path) → get (table_of es) q ≡ option_map entry_in (task_at es q)
get-table_of es q = get-from_entries nat_list_cmp_total (map pair_of es) q ∙ find_pair es q

-- another task at one path
pub table_of-update : {C : Type 0} (es fs : List (Path × BoxedTask C)) (k : Path) (w : BoxedTask C)
    → ((q : Path) → task_at fs q ≡ cond (is_at (path_cmp k) q) (Some w) (task_at es q)) → table_of fs ≡ insert (table_of es) k (entry_in w)
table_of-update es fs k w h = same_map nat_list_cmp_total (slice_cmp-IsAntisymmetric nat_cmp-IsAntisymmetric) _ _ (λ q.
    get-table_of fs q ∙ ap (option_map entry_in) (h q) ∙ map_cond entry_in (is_at (path_cmp k) q) (Some w) (task_at es q)
    ∙ ap (λ b. cond b (Some (entry_in w)) (option_map entry_in (task_at es q))) ((eq_by_cmp_equiv nat_list_cmp_total).symm k q)
    ∙ sym (get-insert nat_list_cmp_total (table_of es) k (entry_in w) q ∙ ap (cond (eq_by_cmp path_cmp q k) (Some (entry_in w))) (get-table_of es q)))

-- no task at one path
pub table_of-remove : {C : Type 0} (es fs : List (Path × BoxedTask C)) (k : Path)
    → ((q : Path) → task_at fs q ≡ cond (is_at (path_cmp k) q) None (task_at es q)) → table_of fs ≡ remove (table_of es) k
table_of-remove es fs k h = same_map nat_list_cmp_total (slice_cmp-IsAntisymmetric nat_cmp-IsAntisymmetric) _ _ (λ q.
    get-table_of fs q ∙ ap (option_map entry_in) (h q) ∙ map_cond entry_in (is_at (path_cmp k) q) None (task_at es q)
    ∙ ap (λ b. cond b None (option_map entry_in (task_at es q))) ((eq_by_cmp_equiv nat_list_cmp_total).symm k q)
    ∙ sym (get-remove nat_list_cmp_total (table_of es) k q ∙ ap (cond (eq_by_cmp path_cmp q k) None) (get-table_of es q)))

-- a table without a path doesn't have it, and has the others as before
pub get_removed : {C : Type 0} (m m' : Table C) (k : Path) → m' ≡ remove m k → get m' k ≡ None
get_removed m m' k h =
    ap (λ q. get q k) h ∙ get-remove nat_list_cmp_total m k k ∙ ap (λ b. cond b None (get m k)) ((eq_by_cmp_equiv nat_list_cmp_total).refl k)

unlike : (b : Bool) (q k : Path) → pointwise nat_eq q k ≡ b → q ≢ k → b ≡ false
unlike true q k e n = absurd (n (same_path q k e))
unlike false q k e n = refl

pub get_others : {C : Type 0} (m m' : Table C) (k : Path) → m' ≡ remove m k → (q : Path) → q ≢ k → get m' q ≡ get m q
get_others m m' k h q n =
    ap (λ t. get t q) h ∙ get-remove nat_list_cmp_total m k q ∙ ap (λ b. cond b None (get m q)) (sym (texts_ties q k) ∙ unlike (pointwise nat_eq q k) q k refl n)

-- what a table has at a path, by the task there
pub get_task : {C : Type 0} (es : List (Path × BoxedTask C)) (k : Path) (found : Option (BoxedTask C)) → found ≡ task_at es k → option_map entry_in found ≡ get (table_of es) k
get_task es k found h = ap (option_map entry_in) h ∙ sym (get-table_of es k)

is_some-map : {A B : Type 0} (f : A → B) (o : Option A) → is_some (option_map f o) ≡ is_some o
is_some-map f None = refl
is_some-map f (Some a) = refl

-- the table has a path if there is a task at it
pub is_some-table_of : {C : Type 0} (es : List (Path × BoxedTask C)) (k : Path) → is_some (get (table_of es) k) ≡ is_some (task_at es k)
is_some-table_of es k = ap is_some (get-table_of es k) ∙ is_some-map entry_in (task_at es k)

-- a change at a path without a task, and at one whose task becomes another
pub change_at-none : {C : Type 0} (es : List (Path × BoxedTask C)) (k : Path) (f : TaskEntry C → TaskEntry C) → None ≡ task_at es k → table_of es ≡ change_at (table_of es) k f
change_at-none es k f h = ap (change_found (table_of es) k f) (get_task es k None h)

pub change_at-some : {C : Type 0} (es fs : List (Path × BoxedTask C)) (k : Path) (f : TaskEntry C → TaskEntry C) (t w : BoxedTask C) → Some t ≡ task_at es k → entry_in w ≡ f (entry_in t)
    → ((q : Path) → task_at fs q ≡ cond (is_at (path_cmp k) q) (Some w) (task_at es q)) → table_of fs ≡ change_at (table_of es) k f
change_at-some es fs k f t w h e u =
    table_of-update es fs k w u ∙ ap (insert (table_of es) k) e
    ∙ ap (change_found (table_of es) k f) (get_task es k (Some t) h)

both : (a b : Bool) → T a → T b → T (a && b)
both true b p q = q
both false b p q = p

keep_below : {X : Type 0} (k : Path) (es : List (Path × X)) → AllByRecursion (λ q. path_cmp k q ≡ Less) (keys_of es) → T (below_all path_cmp k es)
keep_below k [] h = tt
keep_below k (e ∷ es) h = both (is_lt (path_cmp k e.0)) (below_all path_cmp k es) (subst (λ o. T (is_lt o)) (sym h.0) tt) (keep_below k es h.1)

pub sorted_list : {X : Type 0} (es : List (Path × X)) → IsStrictlySortedBy path_cmp (keys_of es) → T (is_sorted path_cmp es)
unfolding IsStrictlySortedBy
sorted_list [] h = tt
sorted_list (e ∷ es) h = both (below_all path_cmp e.0 es) (is_sorted path_cmp es) (keep_below e.0 es h.0) (sorted_list es h.1)
