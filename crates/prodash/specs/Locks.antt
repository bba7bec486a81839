-- What the lock of a tree protects, and what its calls change.
use Rattle.std.specs.Prelude.{◌≡◌, ◌≢◌, ℕ, ◌+◌, List, Option, None, IsSome, ⊤}
use Rattle.std.specs.FinMap as finite
use Rattle.prodash_base.specs.Path.{Path, next_id}
use Rattle.prodash_base.specs.Rows.{PathRow}
use Rattle.prodash_base.specs.Messages.{message_of}
use Rattle.prodash_base.specs.Rings.{push}
use Rattle.prodash_base.specs.declared.messages.Message.{Message}
use Rattle.prodash_base.specs.declared.messages.MessageLevel.{MessageLevel}
use Rattle.prodash_base.specs.declared.unit.units.Unit.{Unit}
use Rattle.prodash_core.specs.Tables.{TaskEntry, RowsShow, ListsEachOnce, change_at, name_at, new_entry, new_progress, with_progress}
use Rattle.prodash_core.specs.Trees.{name_of}
use Rattle.slab.specs.Slab.{get}
use Rattle.prodash.specs.declared.tree.counter_slots.CounterSlots.{CounterSlots}
use Rattle.prodash.specs.declared.tree.locked.LockedTree.{LockedTree}

-- the slot was free, and now has an item; the other slots are as before
pub record FillsSlot (old : CounterSlots) (n : ℕ) (new : CounterSlots) : Type 0 where
  pub was_free : get old.slab n ≡ None
  pub filled : IsSome (get new.slab n)
  pub others : (other : ℕ) → other ≢ n → get new.slab other ≡ get old.slab other

-- The owners and the messages are as before, and this is the number of the root's next child.
pub record KeepsRest (old new : LockedTree) (next_child : ℕ) : Type 0 where
  pub number : new.next_child ≡ next_child
  pub owners : new.owners ≡ old.owners
  pub ring : new.ring ≡ old.ring

-- A task is inserted at the path, and the slot is filled. The root's next child gets this number.
pub record Inserts (old : LockedTree) (path : Path) (task : TaskEntry ℕ) (slot next_child : ℕ)
    (new : LockedTree) : Type 0 where
  pub table : new.table ≡ finite.insert old.table path task
  pub slots : FillsSlot old.slots slot new.slots
  pub rest : KeepsRest old new next_child

-- A task that has no progress yet is inserted at the path, and the slot is filled.
abbrev pub InsertsTask : LockedTree → Path → List ℕ → List ℕ → ℕ → LockedTree → Type 0
InsertsTask old path name id slot new =
    Inserts old path (new_entry name id) slot old.next_child new

-- The same, and the number of the root's next child rises by one.
abbrev pub InsertsChild : LockedTree → Path → List ℕ → List ℕ → ℕ → LockedTree → Type 0
InsertsChild old path name id slot new =
    Inserts old path (new_entry name id) slot (next_id old.next_child) new

-- The rows are those of all tasks, each once: with the path, the name, the identifier, the bound,
-- the unit and the state of the task, and some number as its step.
pub record ListsTasks (locked : LockedTree) (rows : List PathRow) : Type 0 where
  pub each : ListsEachOnce locked.table rows
  pub shown : RowsShow (λ slot step. ⊤) locked.table rows

-- the tree with one owner more
abbrev pub with_owner : LockedTree → LockedTree
with_owner locked = record locked { owners = locked.owners + 1 }

-- the name of the task at a path, if there is one
abbrev pub name_in : LockedTree → Path → Option (List ℕ)
name_in locked path = name_at (finite.get locked.table path)

-- a message whose origin is the name of the task at a path, or empty if there is none
abbrev pub message_from : LockedTree → Path → ℕ → MessageLevel → List ℕ → Message
message_from locked path at level text =
    message_of at level (name_of (finite.get locked.table path)) text

-- the tree after a message is sent
abbrev pub with_message : LockedTree → Message → LockedTree
with_message locked message = record locked { ring = push locked.ring message }

-- the tree after the progress of the task at a path, whose item has this slot, is begun
abbrev pub begun_at : LockedTree → Path → ℕ → Option ℕ → Option Unit → LockedTree
begun_at locked path slot max unit = record locked {
  table = change_at locked.table path (with_progress (new_progress slot max unit));
}

-- the tree after a change of the task at a path, if there is one
abbrev pub changed_at : LockedTree → Path → (TaskEntry ℕ → TaskEntry ℕ) → LockedTree
changed_at locked path change = record locked { table = change_at locked.table path change }
