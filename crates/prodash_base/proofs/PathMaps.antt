-- Finite maps by path, after a change.
use Rattle.std.proofs.Common.{◌≡◌, Bool, true, false, cond, Option, Some, None, refl, sym, ap, ◌∙◌}
use Rattle.std.specs.Cmp.{eq_by_cmp_equiv, Equal-is}
use Rattle.std.proofs.lemmas.Cmp.{nat_list_cmp_total}
use Rattle.std.specs.FinMap.{FinMap, get, insert, get-insert, retain_keys, get-retain_keys, same_map, slice_cmp-IsAntisymmetric, nat_cmp-IsAntisymmetric}
use Rattle.std.specs.BTreeMap.{is_at}
use Rattle.std.specs.declared.cmp.Ordering.TheVariants.{Equal}
use Rattle.prodash_base.specs.Path.{Path, path_cmp}

-- paths that tie are one
pub same_path : (p q : Path) → path_cmp p q ≡ Equal → p ≡ q
same_path = slice_cmp-IsAntisymmetric nat_cmp-IsAntisymmetric

pub same_table : {Y : Type 0} (m n : FinMap path_cmp Y) → ((q : Path) → get m q ≡ get n q) → m ≡ n
same_table = same_map nat_list_cmp_total same_path

pub get-insert_at : {Y : Type 0} (m : FinMap path_cmp Y) (k : Path) (v : Y) (q : Path) → get (insert m k v) q ≡ cond (is_at (path_cmp k) q) (Some v) (get m q)
get-insert_at m k v q = get-insert nat_list_cmp_total m k v q ∙ ap (λ b. cond b (Some v) (get m q)) ((eq_by_cmp_equiv nat_list_cmp_total).symm q k)

same_key : (k q : Path) → is_at (path_cmp k) q ≡ true → q ≡ k
same_key k q e = sym (same_path k q ((Equal-is (path_cmp k q)).0 e))

absorbed : {Y : Type 0} (b : Bool) (v : Y) (o : Option Y) → (b ≡ true → o ≡ Some v) → cond b (Some v) o ≡ o
absorbed true v o h = sym (h refl)
absorbed false v o h = refl

-- an insertion of a value that is there changes nothing
pub insert_same : {Y : Type 0} (m : FinMap path_cmp Y) (k : Path) (v : Y) → get m k ≡ Some v → insert m k v ≡ m
insert_same m k v h = same_table _ _ (λ q.
    get-insert_at m k v q ∙ absorbed (is_at (path_cmp k) q) v (get m q) (λ e. ap (get m) (same_key k q e) ∙ h))

pub get-retain_at : {Y : Type 0} (m : FinMap path_cmp Y) (p : Path → Bool) (q : Path) → get (retain_keys m p) q ≡ cond (p q) (get m q) None
get-retain_at m p q = get-retain_keys m p q (λ x e. ap p (sym (same_path q x e)))
