-- A map of tasks by their paths, after a change at one of them.
use Rattle.std.proofs.Common.{◌≡◌, cond, List, [], ◌∷◌, Option, Some, None, refl, sym, ap, ◌∙◌}
use Rattle.std.specs.Ordering.{eq_by_cmp}
use Rattle.std.specs.Cmp.{eq_by_cmp_equiv}
use Rattle.std.proofs.lemmas.Cmp.{nat_list_cmp_total}
use Rattle.std.specs.FinMap.{FinMap, find, get, insert, remove, from_entries, get-from_entries, get-insert, get-remove, same_map, slice_cmp-IsAntisymmetric, nat_cmp-IsAntisymmetric}
use Rattle.std.specs.BTreeMap.{is_at}
use Rattle.std.specs.Map.{lookup}
use Rattle.prodash_base.specs.Path.{Path, path_cmp}
use Rattle.prodash.specs.declared.render.plain.told.Told.{Told}

abbrev pub tellings_of : List (Path × Told) → FinMap path_cmp Told
tellings_of es = from_entries es

-- what a list of entries has at a path
abbrev pub told_at : List (Path × Told) → Path → Option Told
told_at es q = lookup (is_at (path_cmp q)) es

find_told : (es : List (Path × Told)) (q : Path) → find path_cmp q es ≡ told_at es q
find_told [] q = refl
find_told (e ∷ es) q = ap (cond (is_at (path_cmp q) e.0) (Some e.1)) (find_told es q)

pub get-tellings_of : (es : List (Path × Told)) (q : Path) → get (tellings_of es) q ≡ told_at es q
get-tellings_of es q = get-from_entries nat_list_cmp_total es q ∙ find_told es q

-- another value at one path
pub tellings_of-update : (es fs : List (Path × Told)) (k : Path) (w : Told)
    → ((q : Path) → told_at fs q ≡ cond (is_at (path_cmp k) q) (Some w) (told_at es q)) → tellings_of fs ≡ insert (tellings_of es) k w
tellings_of-update es fs k w h = same_map nat_list_cmp_total (slice_cmp-IsAntisymmetric nat_cmp-IsAntisymmetric) _ _ (λ q.
    get-tellings_of fs q ∙ h q
    ∙ ap (λ b. cond b (Some w) (told_at es q)) ((eq_by_cmp_equiv nat_list_cmp_total).symm k q)
    ∙ sym (get-insert nat_list_cmp_total (tellings_of es) k w q ∙ ap (cond (eq_by_cmp path_cmp q k) (Some w)) (get-tellings_of es q)))

-- no value at one path
pub tellings_of-remove : (es fs : List (Path × Told)) (k : Path)
    → ((q : Path) → told_at fs q ≡ cond (is_at (path_cmp k) q) None (told_at es q)) → tellings_of fs ≡ remove (tellings_of es) k
tellings_of-remove es fs k h = same_map nat_list_cmp_total (slice_cmp-IsAntisymmetric nat_cmp-IsAntisymmetric) _ _ (λ q.
    get-tellings_of fs q ∙ h q
    ∙ ap (λ b. cond b None (told_at es q)) ((eq_by_cmp_equiv nat_list_cmp_total).symm k q)
    ∙ sym (get-remove nat_list_cmp_total (tellings_of es) k q ∙ ap (cond (eq_by_cmp path_cmp q k) None) (get-tellings_of es q)))
