-- What callers say of a ring and of a tree after a call.
use Rattle.std.specs.Prelude.{◌≡◌, ◌<◌, ℕ, List, [], Option, Some, None, Result, OnOk, Contains}
use Rattle.prodash_base.specs.Path.{Path, child}
use Rattle.prodash_base.specs.Rings.{Ring, push}
use Rattle.prodash_base.specs.Rows.{PathRow}
use Rattle.prodash_base.specs.declared.messages.Message.{Message}
use Rattle.prodash_base.specs.declared.refusal.Refusal.{Refusal}
use Rattle.prodash_core.specs.Trees.{Tree, slot_at, tree_rows, Applies}
use Rattle.prodash_core.specs.declared.tree.slot.Slot.{Slot}
use Rattle.prodash_core.specs.declared.tree.event.Event.TheVariants.{AddChild}
use Rattle.prodash_core.specs.declared.tree.event.Reply.{Reply}

-- a ring has the capacity that it had, and a message
abbrev pub HasMessage : Ring → Ring → Message → Type 0
HasMessage before ring m = (ring.capacity ≡ before.capacity) × Contains ring.messages m

-- unless it keeps none, a ring has a message that is pushed
abbrev pub KeepsPushed : Ring → Message → Type 0
KeepsPushed ring m = 0 < ring.capacity → HasMessage ring (push ring m) m

-- the path of a slot's next child; empty without a slot
abbrev pub next_path : Option Slot → Path
next_path None = []
next_path (Some slot) = child slot.key slot.next_child

-- the row of a task that is added below a handle, before it has progress
abbrev pub added_row : Tree → ℕ → List ℕ → List ℕ → PathRow
added_row t parent name id =
    (next_path (slot_at t parent), record { name = name; id = id; progress = None })

-- if a call adds a task to the first tree and leaves the second, its rows have the task's row
abbrev pub ListsAdded : Tree → Tree → ℕ → List ℕ → List ℕ → Type 0
ListsAdded t t' parent name id =
    (result : Result Reply Refusal) → Applies t (AddChild parent name id) result t'
    → OnOk result (Contains (tree_rows t') (added_row t parent name id))
