-- What calls under the lock of a tree change, and no public contract cites: the slots of a new tree
-- and of a copy, those that a removed task or a refused child leaves, and the limit of messages.
use Rattle.std.specs.Prelude.{◌≡◌, ℕ, [], None, ⊤, IsTrue}
use Rattle.std.specs.FinMap as finite
use Rattle.prodash_base.specs.Path.{Path}
use Rattle.prodash_base.specs.Rings.{is_push_limit_reached}
use Rattle.slab.specs.Slab.{Updates, SameValues, IsSlabClone}
use Rattle.prodash.specs.declared.tree.counter_slots.CounterSlots.{CounterSlots}
use Rattle.prodash.specs.declared.tree.locked.LockedTree.{LockedTree}
use Rattle.prodash.specs.Locks.{KeepsRest}

-- no item has a slot
abbrev pub NoSlots : CounterSlots → Type 0
NoSlots s = s.slab.slots ≡ []

-- each slot is free, or of the same item, as before
abbrev pub SameSlots : CounterSlots → CounterSlots → Type 0
SameSlots old new = SameValues old.slab new.slab

-- the same slots are free, and the next item gets the same one
abbrev pub SameFreeSlots : CounterSlots → CounterSlots → Type 0
SameFreeSlots old new = IsSlabClone (λ _ _. ⊤) old.slab new.slab

-- the slot is free now; the other slots are as before
abbrev pub FreesSlot : CounterSlots → ℕ → CounterSlots → Type 0
FreesSlot old n new = Updates old.slab new.slab n None

-- The task at the path is removed, if there is one, and the slot is freed.
pub record Removes (old : LockedTree) (path : Path) (slot : ℕ) (new : LockedTree) : Type 0 where
  pub table : new.table ≡ finite.remove old.table path
  pub slots : FreesSlot old.slots slot new.slots
  pub rest : KeepsRest old new old.next_child

-- Nothing has changed, except how many slots there is room for.
pub record ChangesNothing (old new : LockedTree) : Type 0 where
  pub table : new.table ≡ old.table
  pub slots : SameSlots old.slots new.slots
  pub rest : KeepsRest old new old.next_child

-- A copy of a tree has one owner, the same tasks and messages, and the same free slots.
pub record IsCopy (copy tree : LockedTree) : Type 0 where
  pub owners : copy.owners ≡ 1
  pub number : copy.next_child ≡ tree.next_child
  pub table : copy.table ≡ tree.table
  pub slots : SameFreeSlots tree.slots copy.slots
  pub ring : copy.ring ≡ tree.ring

-- as many messages were sent as can be
abbrev pub IsAtMessageLimit : LockedTree → Type 0
IsAtMessageLimit locked = IsTrue (is_push_limit_reached locked.ring)
