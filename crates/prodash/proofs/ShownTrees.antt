-- What views show of trees.
use Rattle.std.proofs.Common.{◌≡◌, ◌∙◌, ℕ, zero, suc, ◌+◌, ◌<◌, List, [], ◌∷◌, length, Option, Some, None, Result, Ok, Err, refl, sym, ap, subst, arith, map, get_or, Bool, ◌&&◌, true, false, T}
use Rattle.std.specs.Map.{keys_of}
use Rattle.std.specs.Ordering.{is_lt}
use Rattle.std.specs.declared.cmp.Ordering.{Ordering}
use Rattle.std.specs.declared.cmp.Ordering.TheVariants.{Less, Equal, Greater}
use Rattle.std.specs.FinMap as finite
use Rattle.std.specs.FinMap.{FinMap, is_sorted, entries, entries_sorted}
use Rattle.prodash_base.specs.Path.{Path, path_cmp}
use Rattle.prodash_base.specs.Adjacency.{IsAscending}
use Rattle.prodash_core.specs.Tables.{Table, TaskEntry, frozen, rows_at}
use Rattle.prodash_core.specs.Trees.{Tree, tree_rows, counter_at, snapshot_of, snapshot_by, slot_at}
use Rattle.prodash_line.specs.Renderer.{Seen}
use Rattle.prodash_core.specs.declared.tree.slot.Slot.{Slot}
use Rattle.prodash_base.specs.declared.refusal.Refusal.{Refusal}
use Rattle.prodash_base.specs.declared.refusal.Refusal.TheVariants as refusals
use Rattle.prodash_core.specs.Trees.{Returns, Applies, for_slot}
use Rattle.prodash_core.specs.declared.tree.event.Event.TheVariants.{NumTasks}
use Rattle.prodash_core.specs.declared.tree.event.Reply.{Reply}
use Rattle.prodash_core.specs.declared.tree.event.Reply.TheVariants as replies
use Rattle.prodash.specs.Views.{Shown, shown_of, or_nothing, tasks_by, tasks_of}
use Rattle.prodash.specs.plumbing.Recordings.{count_in}

is_less : (o : Ordering) → T (is_lt o) → o ≡ Less
is_less Less h = refl
is_less Equal h = absurd h
is_less Greater h = absurd h

left : (a b : Bool) → T (a && b) → T a
left true b h = tt
left false b h = absurd h

right : (a b : Bool) → T (a && b) → T b
right true b h = h
right false b h = absurd h

-- the keys of a sorted list of pairs are ascending
sorted_keys : {X : Type 0} (es : List (Path × X)) → T (is_sorted path_cmp es) → (k : ℕ) (d : Path) → k + 1 < length (keys_of es) → path_cmp (get_or (keys_of es) k d) (get_or (keys_of es) (k + 1) d) ≡ Less
sorted_keys [] h k d l = absurd (omega arith)
sorted_keys (e ∷ []) h k d l = absurd (omega arith)
sorted_keys (e ∷ f ∷ es) h zero d l = is_less _ (left _ _ (left _ _ h))
sorted_keys (e ∷ f ∷ es) h (suc k) d l =
    let place : suc k + 1 ≡ suc (k + 1) = omega arith in
    subst (λ n. path_cmp (get_or (keys_of (f ∷ es)) k d) (get_or (keys_of (e ∷ f ∷ es)) n d) ≡ Less) (sym place) (sorted_keys (f ∷ es) (right _ _ h) k d (omega arith))

frozen_keys : (number : ℕ → ℕ) (es : List (Path × TaskEntry ℕ)) → keys_of (map (frozen number) es) ≡ keys_of es
frozen_keys number [] = refl
frozen_keys number (e ∷ es) = ap (λ ks. e.0 ∷ ks) (frozen_keys number es)

-- the rows of a tree are in ascending order
pub rows_ascend : (t : Tree) → IsAscending (keys_of (tree_rows t))
rows_ascend t = subst IsAscending (sym (frozen_keys (counter_at t.slots) (entries t.table))) (sorted_keys (entries t.table) (entries_sorted t.table))

shown_by_ascend : (root : Option Slot) (t : Tree) (previous : Option ℕ) → IsAscending (keys_of (or_nothing previous (snapshot_by root t previous)).0)
shown_by_ascend None t previous = λ k d l. absurd (omega (arith, l))
shown_by_ascend (Some root) t previous = rows_ascend t

-- the rows that a look shows are in ascending order
pub shown_ascend : (t : Tree) (previous : Option ℕ) (shown : Shown) → shown ≡ shown_of t previous → IsAscending (keys_of shown.0)
shown_ascend t previous shown is = subst (λ (s : Shown). IsAscending (keys_of s.0)) (sym is) (shown_by_ascend (slot_at t 0) t previous)

counted_by : (root : Option Slot) (t t' : Tree) (r : Result Reply Refusal)
    → Returns t false (for_slot root (λ slot. Ok (t, replies.Count (finite.len t.table)))) r t' → (count_in r ≡ tasks_by root t) × (t' ≡ t)
counted_by None t t' (Ok reply) h = absurd (cc h)
counted_by None t t' (Err refusals.Memory) h = (refl, h.2)
counted_by None t t' (Err refusals.TooManyMessages) h = (refl, h.1)
counted_by None t t' (Err refusals.TooManyHandles) h = (refl, h.1)
counted_by None t t' (Err refusals.NoThread) h = (refl, h.1)
counted_by None t t' (Err refusals.Gone) h = (refl, h.1)
counted_by None t t' (Err refusals.Closed) h = (refl, h.1)
counted_by None t t' (Err refusals.Broken) h = (refl, h.1)
counted_by (Some root) t t' (Ok reply) h =
    let same : (t', reply) ≡ (t, replies.Count (finite.len t.table)) = cc h in
    (ap (λ (x : Tree × Reply). count_in (Ok x.1)) same, ap (λ (x : Tree × Reply). x.0) same)
counted_by (Some root) t t' (Err refusals.Memory) h = absurd (cc (h.0))
counted_by (Some root) t t' (Err refusals.TooManyMessages) h = absurd (cc (h.0))
counted_by (Some root) t t' (Err refusals.TooManyHandles) h = absurd (cc (h.0))
counted_by (Some root) t t' (Err refusals.NoThread) h = absurd (cc (h.0))
counted_by (Some root) t t' (Err refusals.Gone) h = absurd (cc (h.0))
counted_by (Some root) t t' (Err refusals.Closed) h = absurd (cc (h.0))
counted_by (Some root) t t' (Err refusals.Broken) h = absurd (cc (h.0))

-- a reply to `NumTasks` has the number of tasks, and the tree stays
pub tasks_counted : (t t' : Tree) (r : Result Reply Refusal) → Applies t NumTasks r t' → count_in r ≡ tasks_of t
tasks_counted t t' r h = (counted_by (slot_at t 0) t t' r h).0

pub counting_keeps : (t t' : Tree) (r : Result Reply Refusal) → Applies t NumTasks r t' → t' ≡ t
counting_keeps t t' r h = (counted_by (slot_at t 0) t t' r h).1

pub ruleset counting_tasks = (tasks_counted, counting_keeps)
