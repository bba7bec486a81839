-- The tree of tasks, and what an event does to it.
use Rattle.std.specs.Prelude.{◌≡◌, ℕ, ◌+◌, ◌%◌, ◌^◌, Bool, true, false, nat_eq, List, [], ◌∷◌, ◌++◌, length, Option, Some, None, slice_get, slice_set, if◌then◌else◌, Result, Ok, Err, IsTrue, IsOk, MatchOption}
use Rattle.std.specs.FinMap as finite
use Rattle.prodash_base.specs.Path.{Path, child, next_id}
use Rattle.prodash_base.specs.Rows.{Phase, PathRow}
use Rattle.prodash_base.specs.declared.unit.units.Unit.{Unit}
use Rattle.prodash_base.specs.Rows as phases
use Rattle.prodash_base.specs.Messages.{message_of}
use Rattle.prodash_base.specs.Rings.{Ring, new_ring, push, messages_since, is_push_limit_reached}
use Rattle.prodash_base.specs.declared.messages.Message.{Message}
use Rattle.prodash_base.specs.declared.messages.MessageLevel.{MessageLevel}
use Rattle.prodash_base.specs.declared.refusal.Refusal.{Refusal}
use Rattle.prodash_base.specs.declared.refusal.Refusal.TheVariants as refusals
use Rattle.prodash_line.specs.Renderer.{Seen}
use Rattle.prodash_line.specs.declared.render.line.draw.input.Input.{Input}
use Rattle.prodash_line.specs.declared.render.line.draw.input.Input.TheVariants as inputs
use Rattle.prodash_core.specs.Tables.{Table, TaskEntry, new_entry, new_progress, change_at, with_name, with_bound, with_phase, name_at, id_of, bound_of, unit_of, rows_at}
use Rattle.prodash_core.specs.declared.tree.slot.Slot.{Slot}
use Rattle.prodash_core.specs.declared.tree.event.Event.{Event}
use Rattle.prodash_core.specs.declared.tree.event.Event.TheVariants as events
use Rattle.prodash_core.specs.declared.tree.event.Event.TheVariants.{AddChild, Drop, Init, SetName, SetMax, Set, IncBy, Blocked, Halted, Running, Name, Id, Step, Max, NumTasks, Snapshot, CopyMessages, CopyNew, DropRoot, Tick, Resize, Quit}
use Rattle.prodash_core.specs.declared.tree.event.Reply.{Reply}
use Rattle.prodash_core.specs.declared.tree.event.Reply.TheVariants as replies

pub record Tree : Type 0 where
  -- the map from paths to entries; a progress names the handle whose counter it shows
  pub table : Table ℕ
  -- the slot of each handle, in the order in which they were made; the first is the root's
  pub slots : List Slot
  -- the latest messages
  pub ring : Ring

-- the slot of a new handle
abbrev pub new_slot : Path → Slot
new_slot path = record { key = path; counter = 0; next_child = 0; is_valid = true }

-- nothing but the root, and a ring of this capacity
abbrev pub new_tree : ℕ → Tree
new_tree capacity =
    record { table = finite.empty; slots = new_slot [] ∷ []; ring = new_ring capacity }

-- the slot, if its handle is valid
abbrev pub if_valid : Option Slot → Option Slot
if_valid None = None
if_valid (Some slot) = if slot.is_valid then Some slot else None

-- the slot of a handle, if the handle is valid
abbrev pub slot_at : Tree → ℕ → Option Slot
slot_at t n = if_valid (slice_get t.slots n)

-- the same for the handle of an item: the root is none
abbrev pub item_at : Tree → ℕ → Option Slot
item_at t n = if nat_eq n 0 then None else slot_at t n

-- the number of a slot's counter
abbrev pub counter_of : Option Slot → ℕ
counter_of None = 0
counter_of (Some slot) = slot.counter

-- the number of the counter of a handle
abbrev pub counter_at : List Slot → ℕ → ℕ
counter_at slots n = counter_of (slice_get slots n)

-- the rows of the tree: the entries in the order of paths, each counter's number in its place
abbrev pub tree_rows : Tree → List PathRow
tree_rows t = rows_at (counter_at t.slots) t.table

-- the slot after a child was added to it
abbrev pub with_child : Slot → Slot
with_child slot = record slot { next_child = next_id slot.next_child }

-- a child of the handle n, which has this slot
abbrev pub add_child : Tree → ℕ → Slot → List ℕ → List ℕ → Tree
add_child t n slot name id = record t {
  table = finite.insert t.table (child slot.key slot.next_child) (new_entry name id);
  slots = slice_set t.slots n (with_child slot) ++ new_slot (child slot.key slot.next_child) ∷ [];
}

-- without the entry of the handle n, which is no longer valid; the entries below it stay
abbrev pub drop_item : Tree → ℕ → Slot → Tree
drop_item t n slot = record t {
  table = finite.remove t.table slot.key;
  slots = slice_set t.slots n (record slot { is_valid = false });
}

-- the entry of a slot, if the map has its path
abbrev pub entry_at : Tree → Slot → Option (TaskEntry ℕ)
entry_at t slot = finite.get t.table slot.key

-- a change of that entry; nothing if there is none
abbrev pub change_entry : Tree → Slot → (TaskEntry ℕ → TaskEntry ℕ) → Tree
change_entry t slot f = record t { table = change_at t.table slot.key f }

-- the counter of the handle n has this number
abbrev pub set_counter : Tree → ℕ → Slot → ℕ → Tree
set_counter t n slot step =
    record t { slots = slice_set t.slots n (record slot { counter = step }) }

-- the entry of a slot begins its progress, and the counter is 0; nothing without an entry
abbrev pub init_at : Tree → ℕ → Slot → Option ℕ → Option Unit → Option (TaskEntry ℕ) → Tree
init_at t n slot max unit None = t
init_at t n slot max unit (Some e) = record (set_counter t n slot 0) {
  table = finite.insert t.table slot.key (record e { progress = new_progress n max unit });
}

-- if the map has the path, its progress begins, and the counter is 0
abbrev pub init : Tree → ℕ → Slot → Option ℕ → Option Unit → Tree
init t n slot max unit = init_at t n slot max unit (entry_at t slot)

-- the name of an entry; empty if there is none
abbrev pub name_of : Option (TaskEntry ℕ) → List ℕ
name_of None = []
name_of (Some e) = e.name

-- a message of a handle with this slot: its origin is the name of the entry at the slot's path
abbrev pub message_by : Tree → Slot → ℕ → MessageLevel → List ℕ → Message
message_by t slot at level text = message_of at level (name_of (entry_at t slot)) text

-- the counter of the handle n is raised by this step, modulo 2^64
abbrev pub inc_counter : Tree → ℕ → Slot → ℕ → Tree
inc_counter t n slot step = set_counter t n slot ((slot.counter + step) % 2 ^ 64)

-- the outcome of an event on a tree: the tree after it and the reply, or the refusal
abbrev pub Outcome : Type 0
Outcome = Result (Tree × Reply) Refusal

-- the message is pushed, unless no more can be counted
abbrev pub push_message : Tree → Message → Outcome
push_message t m =
    if is_push_limit_reached t.ring then Err refusals.TooManyMessages
    else Ok (record t { ring = push t.ring m }, replies.Done)

-- the root's handle is no longer valid
abbrev pub drop_root : Tree → Slot → Tree
drop_root t slot = record t { slots = slice_set t.slots 0 (record slot { is_valid = false }) }

-- the same with the root's slot, if it has one
abbrev pub snapshot_by : Option Slot → Tree → Option ℕ → Seen
snapshot_by None t previous = None
snapshot_by (Some root) t previous =
    Some (tree_rows t, messages_since t.ring previous, t.ring.pushed)

-- what a frame sees: the rows, the messages since `previous` pushes, and the number of pushes;
-- nothing without a root
abbrev pub snapshot_of : Tree → Option ℕ → Seen
snapshot_of t previous = snapshot_by (slot_at t 0) t previous

-- what an event on a slot does; without one the event is refused
abbrev pub for_slot : Option Slot → (Slot → Outcome) → Outcome
for_slot None f = Err refusals.Gone
for_slot (Some slot) f = f slot

-- an event on a handle, which is refused if the handle isn't valid
abbrev pub with_handle : Tree → ℕ → (Slot → Outcome) → Outcome
with_handle t n f = for_slot (slot_at t n) f

-- an event on an item, which is refused if it is the root or its handle isn't valid
abbrev pub with_item : Tree → ℕ → (Slot → Outcome) → Outcome
with_item t n f = for_slot (item_at t n) f

-- the progress of the item's entry, if it has one, has this phase
abbrev pub set_phase : Tree → ℕ → Phase → Outcome
set_phase t n phase =
    with_item t n (λ slot. Ok (change_entry t slot (with_phase phase), replies.Done))

-- a reply that is read from an item's slot
abbrev pub read_item : Tree → ℕ → (Slot → Reply) → Outcome
read_item t n f = with_item t n (λ slot. Ok (t, f slot))

-- a reply that is read from the tree; it needs the root
abbrev pub read_tree : Tree → Reply → Outcome
read_tree t reply = with_handle t 0 (λ root. Ok (t, reply))

-- What an event does. On the tree it has an outcome, and a mark that says whether it may run out of
-- memory. A frame gives the renderer an input, which is made of the tree and of how many messages
-- the renderer has seen.
pub data Effect : Type 0 where
  OnTree : Bool → Outcome → Effect
  OnRenderer : (Option ℕ → Input) → Effect

-- the effect of an event that never runs out of memory
abbrev pub needs_no_memory : Outcome → Effect
needs_no_memory outcome = OnTree false outcome

-- the effect of one that may
abbrev pub needs_memory : Outcome → Effect
needs_memory outcome = OnTree true outcome

-- the effect of each event on a tree
abbrev pub effect_of : Tree → Event → Effect
effect_of t (AddChild parent name id) =
    needs_memory (with_handle t parent (λ slot.
    Ok (add_child t parent slot name id, replies.Made (length t.slots))))
effect_of t (Drop n) =
    needs_no_memory (with_item t n (λ slot. Ok (drop_item t n slot, replies.Done)))
effect_of t (Init n max unit) =
    needs_no_memory (with_item t n (λ slot. Ok (init t n slot max unit, replies.Done)))
effect_of t (SetName n name) =
    needs_memory (with_item t n (λ slot.
    Ok (change_entry t slot (with_name name), replies.Done)))
effect_of t (SetMax n max) =
    needs_no_memory (with_item t n (λ slot.
    Ok (change_entry t slot (with_bound max), replies.Bound (bound_of (entry_at t slot)))))
effect_of t (Set n step) =
    needs_no_memory (with_item t n (λ slot. Ok (set_counter t n slot step, replies.Done)))
effect_of t (IncBy n step) =
    needs_no_memory (with_item t n (λ slot. Ok (inc_counter t n slot step, replies.Done)))
effect_of t (Blocked n reason eta) = needs_no_memory (set_phase t n (phases.Blocked reason.now eta))
effect_of t (Halted n reason eta) = needs_no_memory (set_phase t n (phases.Halted reason.now eta))
effect_of t (Running n) = needs_no_memory (set_phase t n phases.Running)
effect_of t (events.Message n at level text) =
    needs_memory (with_item t n (λ slot. push_message t (message_by t slot at level text)))
effect_of t (Name n) =
    needs_memory (read_item t n (λ slot. replies.Name (name_at (entry_at t slot))))
effect_of t (Id n) = needs_no_memory (read_item t n (λ slot. replies.Id (id_of (entry_at t slot))))
effect_of t (Step n) = needs_no_memory (read_item t n (λ slot. replies.Step slot.counter))
effect_of t (Max n) =
    needs_no_memory (read_item t n (λ slot. replies.Bound (bound_of (entry_at t slot))))
effect_of t (events.Unit n) =
    needs_no_memory (read_item t n (λ slot. replies.Unit (unit_of (entry_at t slot))))
effect_of t NumTasks = needs_no_memory (read_tree t (replies.Count (finite.len t.table)))
effect_of t Snapshot = needs_memory (read_tree t (replies.Rows (tree_rows t)))
effect_of t CopyMessages = needs_memory (read_tree t (replies.Messages t.ring.messages))
effect_of t (CopyNew previous) =
    needs_memory (read_tree t (replies.New (messages_since t.ring previous) t.ring.pushed))
effect_of t DropRoot =
    needs_no_memory (with_handle t 0 (λ root. Ok (drop_root t root, replies.Done)))
effect_of t (Tick at show) = OnRenderer (λ seen. inputs.Tick at show (snapshot_of t seen))
effect_of t (Resize at show columns rows) = OnRenderer (λ seen. inputs.Resize at show columns rows)
effect_of t (Quit at) = OnRenderer (λ seen. inputs.Quit at)

-- is it a frame?
abbrev pub is_frame : Event → Bool
is_frame (Tick at show) = true
is_frame (Resize at show columns rows) = true
is_frame (Quit at) = true
is_frame _ = false

-- A call returns this outcome and leaves this tree; a refusal leaves the tree as it was. Or it
-- returns `Memory`, if the event may run out of it and the tree accepts the event, and leaves the
-- tree as it was.
abbrev pub Returns : Tree → Bool → Outcome → Result Reply Refusal → Tree → Type 0
Returns t memory outcome (Ok reply) t' = outcome ≡ Ok (t', reply)
Returns t memory outcome (Err refusals.Memory) t' = IsTrue memory × IsOk outcome × (t' ≡ t)
Returns t memory outcome (Err refusal) t' = (outcome ≡ Err refusal) × (t' ≡ t)

-- the same of the effect of an event; a frame is applied to no tree
abbrev pub AppliesEffect : Effect → Tree → Result Reply Refusal → Tree → Type 0
AppliesEffect (OnTree memory outcome) t result t' = Returns t memory outcome result t'
AppliesEffect (OnRenderer input) t result t' = ⊥

-- applied to a tree, an event that is no frame returns this result and leaves this tree
abbrev pub Applies : Tree → Event → Result Reply Refusal → Tree → Type 0
Applies t e result t' = AppliesEffect (effect_of t e) t result t'
