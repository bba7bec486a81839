-- What callers say of a ring and of a tree after a call.
use Rattle.std.proofs.Common.{◌≡◌, ℕ, ◌+◌, ◌-◌, ◌<◌, List, [], ◌∷◌, ◌++◌, length, drop, map, Option, Some, None, Result, Ok, Err, OnOk, refl, sym, ap, subst, ◌∙◌, arith, length-append}
use Rattle.std.specs.Prelude.{Contains}
use Rattle.std.specs.Ordering.{is_eq}
use Rattle.std.specs.Cmp.Lexicographic.{texts_ties}
use Rattle.std.specs.FinMap.{insert, entries, entries-insert}
use Rattle.std.specs.FinMap.Entries.{put, by_order}
use Rattle.std.specs.declared.cmp.Ordering.{Ordering}
use Rattle.std.specs.declared.cmp.Ordering.TheVariants.{Less, Equal, Greater}
use Rattle.std.proofs.lemmas.Cmp.{nat_list_cmp_total}
use Rattle.std.proofs.lemmas.List.{drop-append-le, length-map, get_or-map}
use Rattle.std.proofs.lemmas.List.Elements.{Contains-append_right}
use Rattle.prodash_base.specs.Path.{Path, path_cmp, child}
use Rattle.prodash_base.specs.Rings.{Ring, push}
use Rattle.prodash_base.specs.plumbing.KeyHash.{same_path}
use Rattle.prodash_base.specs.declared.messages.Message.{Message}
use Rattle.prodash_base.specs.declared.refusal.Refusal.{Refusal}
use Rattle.prodash_core.specs.Tables.{TaskEntry, new_entry, frozen}
use Rattle.prodash_core.specs.Trees.{Tree, slot_at, tree_rows, counter_at, add_child, for_slot, Applies}
use Rattle.prodash_core.specs.declared.tree.slot.Slot.{Slot}
use Rattle.prodash_core.specs.declared.tree.event.Event.TheVariants.{AddChild}
use Rattle.prodash_core.specs.declared.tree.event.Reply.{Reply}
use Rattle.prodash_core.specs.declared.tree.event.Reply.TheVariants.{Made}
use Rattle.prodash_core.specs.Sessions.{tree_after}
use Rattle.prodash.specs.Callers.{HasMessage, KeepsPushed, next_path, added_row}

-- A ring keeps a message that is pushed, unless it keeps none.
pub push_keeps : (ring : Ring) (m : Message) → KeepsPushed ring m
push_keeps ring m h =
    let all = ring.messages ++ m ∷ [] in
    let count : length all ≡ length ring.messages + 1 = length-append ring.messages (m ∷ []) in
    let older : List Message = drop (length all - ring.capacity) ring.messages in
    let kept : drop (length all - ring.capacity) all ≡ older ++ m ∷ [] =
    drop-append-le (length all - ring.capacity) ring.messages (m ∷ []) (omega arith) in
    (refl, subst (λ ms. Contains ms m) (sym kept) (Contains-append_right older (m ∷ []) m (0, omega arith, refl)))

-- the same after a call
pub pushed_is_kept : {X : Type 0} (before ring : Ring) (m : Message) (result : Result X Refusal) → OnOk result (ring ≡ push before m) → 0 < before.capacity
    → OnOk result (HasMessage before ring m)
pushed_is_kept before ring m (Ok x) h some = subst (λ r. HasMessage before r m) (sym h) (push_keeps before m some)
pushed_is_kept before ring m (Err refusal) h some = tt

-- an entry that is put among others is one of them
put_by : {V : Type 0} (k : Path) (v : V) (e : Path × V) (es : List (Path × V)) (o : Ordering) → path_cmp k e.0 ≡ o → Contains (put path_cmp k v es) (k, v)
    → Contains (by_order o ((k, v) ∷ e ∷ es) ((e.0, v) ∷ es) (e ∷ put path_cmp k v es)) (k, v)
put_by k v e es Less h c = (0, omega arith, refl)
put_by k v e es Equal h c = (0, omega arith, ap (λ q. (q, v)) (sym (same_path k e.0 (texts_ties k e.0 ∙ ap is_eq h))))
put_by k v e es Greater h c = Contains-append_right (e ∷ []) (put path_cmp k v es) (k, v) c

put_is_listed : {V : Type 0} (k : Path) (v : V) (es : List (Path × V)) → Contains (put path_cmp k v es) (k, v)
put_is_listed k v [] = (0, omega arith, refl)
put_is_listed k v (e ∷ es) = put_by k v e es (path_cmp k e.0) refl (put_is_listed k v es)

contains_map : {X Y : Type 0} (f : X → Y) (xs : List X) (x : X) → Contains xs x → Contains (map f xs) (f x)
contains_map f xs x h = (h.0, subst (λ n. h.0 < n) (sym (length-map xs f)) h.1, get_or-map f xs h.0 x (f x) h.1 ∙ ap f h.2)

-- the rows of a tree to which a child was added have its row
child_is_listed : (t : Tree) (n : ℕ) (slot : Slot) (name id : List ℕ)
    → Contains (tree_rows (add_child t n slot name id)) (child slot.key slot.next_child, record { name = name; id = id; progress = None })
child_is_listed t n slot name id =
    let path = child slot.key slot.next_child in
    let entry : TaskEntry ℕ = new_entry name id in
    let listed : Contains (entries (insert t.table path entry)) (path, entry) =
    subst (λ es. Contains es (path, entry)) (sym (entries-insert nat_list_cmp_total t.table path entry)) (put_is_listed path entry (entries t.table)) in
    contains_map (frozen (counter_at (add_child t n slot name id).slots)) (entries (insert t.table path entry)) (path, entry) listed

added_by : (t t' : Tree) (n : ℕ) (name id : List ℕ) (reply : Reply) (s : Option Slot)
    → for_slot s (λ slot. Ok (add_child t n slot name id, Made (length t.slots))) ≡ Ok (t', reply)
    → Contains (tree_rows t') (next_path s, record { name = name; id = id; progress = None })
added_by t t' n name id reply None h = absurd cc
added_by t t' n name id reply (Some slot) h =
    let same : add_child t n slot name id ≡ t' = ap (tree_after t) h in
    subst (λ u. Contains (tree_rows u) (child slot.key slot.next_child, record { name = name; id = id; progress = None })) same (child_is_listed t n slot name id)

-- If a task is added, the rows have its row.
pub added_is_listed : (t t' : Tree) (n : ℕ) (name id : List ℕ) (result : Result Reply Refusal) → Applies t (AddChild n name id) result t'
    → OnOk result (Contains (tree_rows t') (added_row t n name id))
added_is_listed t t' n name id (Ok reply) h = added_by t t' n name id reply (slot_at t n) h
added_is_listed t t' n name id (Err refusal) h = tt
