-- Events on one task, computed: it has the first key, no entry, and a counter.
use Rattle.std.proofs.Common.{◌≡◌, ℕ, [], ◌∷◌, None, Some, Ok, Err, refl}
use Rattle.std.specs.Prelude.{codes}
use Rattle.std.specs.FinMap.{empty, get-empty, len-empty}
use Rattle.prodash_base.specs.Path.{path_cmp}
use Rattle.prodash_base.specs.Rings.{new_ring}
use Rattle.prodash_base.specs.Rows as phases
use Rattle.prodash_base.specs.Rows.{unknown_id}
use Rattle.prodash_base.specs.declared.unit.units.Unit.{Unit}
use Rattle.prodash_base.specs.declared.refusal.Refusal.TheVariants.{Gone}
use Rattle.prodash_core.specs.Tables.{new_entry, new_progress, TaskEntry, with_bound, name_at, id_of, bound_of, unit_of}
use Rattle.prodash_core.specs.Trees.{Tree, Applies, new_slot}
use Rattle.prodash_core.specs.declared.tree.event.Event.TheVariants as events
use Rattle.prodash_core.specs.declared.tree.event.Event.TheVariants.{IncBy, Name, Id, Step, Max, NumTasks}
use Rattle.prodash_core.specs.declared.tree.event.Reply.TheVariants as replies

abbrev tree : ℕ → Tree
tree step = record {
  table = empty;
  slots = new_slot [] ∷ record (new_slot (0 ∷ [])) { counter = step } ∷ [];
  ring = new_ring 20;
}

-- the counter after the greatest number is 0
inc_wraps : Applies (tree 18446744073709551615) (IncBy 1 2) (Ok replies.Done) (tree 1)
inc_wraps = refl

step_is_own : Applies (tree 5) (Step 1) (Ok (replies.Step 5)) (tree 5)
step_is_own = refl

-- the root is no item, and handle 2 wasn't made
root_is_gone : Applies (tree 5) (Step 0) (Err Gone) (tree 5)
root_is_gone = (refl, refl)

other_is_gone : Applies (tree 5) (IncBy 2 1) (Err Gone) (tree 5)
other_is_gone = (refl, refl)

-- without an entry
name_is_none : Applies (tree 5) (Name 1) (Ok (replies.Name None)) (tree 5)
name_is_none = λ i. Ok (tree 5, replies.Name (name_at {C = ℕ} (get-empty path_cmp (0 ∷ []) i)))

id_is_unknown : Applies (tree 5) (Id 1) (Ok (replies.Id unknown_id)) (tree 5)
id_is_unknown = λ i. Ok (tree 5, replies.Id (id_of {C = ℕ} (get-empty path_cmp (0 ∷ []) i)))

max_is_none : Applies (tree 5) (Max 1) (Ok (replies.Bound None)) (tree 5)
max_is_none = λ i. Ok (tree 5, replies.Bound (bound_of {C = ℕ} (get-empty path_cmp (0 ∷ []) i)))

unit_is_none : Applies (tree 5) (events.Unit 1) (Ok (replies.Unit None)) (tree 5)
unit_is_none = λ i. Ok (tree 5, replies.Unit (unit_of {C = ℕ} (get-empty path_cmp (0 ∷ []) i)))

no_tasks : Applies (tree 5) NumTasks (Ok (replies.Count 0)) (tree 5)
no_tasks = λ i. Ok (tree 5, replies.Count (len-empty path_cmp (TaskEntry ℕ) i))

-- an entry without progress gets none by a bound
bound_needs_progress : with_bound {C = ℕ} (Some 7) (new_entry (codes "a") (1 ∷ 2 ∷ 3 ∷ 4 ∷ [])) ≡ new_entry (codes "a") (1 ∷ 2 ∷ 3 ∷ 4 ∷ [])
bound_needs_progress = refl

-- a unit alone begins a progress, and so does a bound alone, but not neither
unit_alone : (unit : Unit)
    → new_progress {C = ℕ} 1 None (Some unit) ≡ Some (record { counter = 1; bound = None; unit = Some unit; phase = phases.Running })
unit_alone unit = refl

bound_alone : new_progress {C = ℕ} 1 (Some 7) None ≡ Some (record { counter = 1; bound = Some 7; unit = None; phase = phases.Running })
bound_alone = refl

neither : new_progress {C = ℕ} 1 None None ≡ None
neither = refl
