-- Turns at the lock of a tree: what one thread finds there, and what it leaves.
use Rattle.std.specs.Prelude.{◌≡◌, ℕ, Bool, cond, not, nat_eq, List, [], Option, Some, None}
use Rattle.std.specs.Global.{Vec}
use Rattle.std.specs.FinMap as finite
use Rattle.prodash_base.specs.Path.{Path, child}
use Rattle.prodash_base.specs.Rows.{PathRow, Phase, rows_of}
use Rattle.prodash_base.specs.Steps.{OfNoSteps, with_steps}
use Rattle.prodash_base.specs.Rings.{messages_since}
use Rattle.prodash_base.specs.declared.progress.Row.{Row}
use Rattle.prodash_base.specs.declared.messages.Message.{Message}
use Rattle.prodash_base.specs.declared.messages.MessageLevel.{MessageLevel}
use Rattle.prodash_base.specs.declared.unit.units.Unit.{Unit}
use Rattle.prodash_core.specs.Tables.{with_name, with_bound, with_phase, id_of, bound_of, unit_of}
use Rattle.prodash.specs.Locks.{ListsTasks, InsertsTask, InsertsChild, name_in, message_from, with_owner, with_message, begun_at, changed_at}
use Rattle.prodash.specs.Items.{Place, next_path}
use Rattle.prodash.specs.declared.tree.locked.LockedTree.{LockedTree}
use Rattle.prodash.specs.declared.tree.turns.Turn.{Turn}

-- what is known of a turn and the tree that it found, or that it left
abbrev pub OfTurn : Type 1
OfTurn = Turn → LockedTree → Type 0

-- The fact holds of the tree that one turn found.
abbrev pub Finds : OfTurn → (LockedTree → Type 0) → Type 0
Finds found fact = (turn : Turn) × (tree : LockedTree) × found turn tree × fact tree

-- The fact holds of the tree that one turn found and of the tree that the same turn left.
abbrev pub Changes : OfTurn → OfTurn → (LockedTree → LockedTree → Type 0) → Type 0
Changes found left fact =
    (turn : Turn) × (old : LockedTree) × (new : LockedTree) × found turn old × left turn new × fact old new

-- the tree has this many tasks
abbrev pub HasTasks : ℕ → LockedTree → Type 0
HasTasks tasks tree = tasks ≡ finite.len tree.table

-- the tree keeps at most this many messages
abbrev pub KeepsAtMost : ℕ → LockedTree → Type 0
KeepsAtMost capacity tree = capacity ≡ tree.ring.capacity

-- the rows are those of all tasks of the tree
abbrev pub HasRows : List PathRow → LockedTree → Type 0
HasRows rows tree = ListsTasks tree rows

-- the messages are those that the tree keeps
abbrev pub HasMessages : List Message → LockedTree → Type 0
HasMessages messages tree = messages ≡ tree.ring.messages

-- The messages are those that the tree keeps of the ones sent after the first `previous`, or all
-- that it keeps if there is no such number. By now `sent` messages have been sent.
abbrev pub HasNews : Option ℕ → List Message → ℕ → LockedTree → Type 0
HasNews previous messages sent tree =
    (messages ≡ messages_since tree.ring previous) × (sent ≡ tree.ring.pushed)

-- the rows and the messages are those of the one tree
abbrev pub HasRowsAndNews : Option ℕ → List PathRow → List Message → ℕ → LockedTree → Type 0
HasRowsAndNews previous rows messages sent tree =
    HasRows rows tree × HasNews previous messages sent tree

-- what a look returned that was handed rows: with the steps they are those of the tree, and so are the messages;
-- if it returned nothing, they aren't with any steps
abbrev pub HasSteps : List PathRow → Option ℕ → Option (Vec ℕ × List Message × ℕ) → LockedTree → Type 0
HasSteps rows previous None tree = OfNoSteps (λ listed. HasRows listed tree) rows
HasSteps rows previous (Some seen) tree =
    HasRowsAndNews previous (with_steps seen.0.items rows) seen.1 seen.2 tree

-- One turn found a tree with these rows and messages. It is known of the rows as they are copied.
abbrev pub CopiesRowsAndNews : OfTurn → Option ℕ → List Row → List Message → ℕ → Type 0
CopiesRowsAndNews found previous rows messages sent =
    Finds found (HasRowsAndNews previous (rows_of rows) messages sent)

-- the name of the task at the path, if there is one
abbrev pub HasName : Path → Option (List ℕ) → LockedTree → Type 0
HasName path name tree = name ≡ name_in tree path

-- the identifier of the task at the path, or the unknown one if there is no task
abbrev pub HasId : Path → List ℕ → LockedTree → Type 0
HasId path id tree = id ≡ id_of (finite.get tree.table path)

-- the bound of the task at the path, if it has one
abbrev pub HasBound : Path → Option ℕ → LockedTree → Type 0
HasBound path max tree = max ≡ bound_of (finite.get tree.table path)

-- the unit of the task at the path, if it has one
abbrev pub HasUnit : Path → Option Unit → LockedTree → Type 0
HasUnit path unit tree = unit ≡ unit_of (finite.get tree.table path)

-- Nothing changes.
abbrev pub Stays : LockedTree → LockedTree → Type 0
Stays old new = new ≡ old

-- The tree gets one owner more.
abbrev pub GetsOwner : LockedTree → LockedTree → Type 0
GetsOwner old new = new ≡ with_owner old

-- The tree gets one owner more exactly if it has one, and else stays; this says whether it has.
abbrev pub Upgrades : Bool → LockedTree → LockedTree → Type 0
Upgrades is_owned old new =
    (is_owned ≡ not (nat_eq old.owners 0)) × (new ≡ cond is_owned (with_owner old) old)

-- The progress of the task at the path is begun.
abbrev pub Begins : Path → Option ℕ → Option Unit → LockedTree → LockedTree → Type 0
Begins path max unit old new = (slot : ℕ) × (new ≡ begun_at old path slot max unit)

-- The task at the path gets this name.
abbrev pub SetsName : Path → List ℕ → LockedTree → LockedTree → Type 0
SetsName path name old new = new ≡ changed_at old path (with_name name)

-- The progress of the task at the path gets this bound, and had that one before.
abbrev pub SetsBound : Path → Option ℕ → Option ℕ → LockedTree → LockedTree → Type 0
SetsBound path max before old new =
    HasBound path before old × (new ≡ changed_at old path (with_bound max))

-- The progress of the task at the path gets this phase.
abbrev pub SetsPhase : Path → Phase → LockedTree → LockedTree → Type 0
SetsPhase path phase old new = new ≡ changed_at old path (with_phase phase)

-- A message of the task at the path is sent.
abbrev pub Sends : Path → ℕ → MessageLevel → List ℕ → LockedTree → LockedTree → Type 0
Sends path at level text old new = new ≡ with_message old (message_from old path at level text)

-- A task is added at the path.
abbrev pub Adds : Path → List ℕ → List ℕ → LockedTree → LockedTree → Type 0
Adds path name id old new =
    (slot : ℕ) × InsertsTask old path name id slot new

-- A task is added below an item, at the path of the item's next child.
abbrev pub AddsBelow : Place → List ℕ → List ℕ → LockedTree → LockedTree → Type 0
AddsBelow item name id old new = Adds (next_path item) name id old new

-- A task is added at the path, which is the root's next child.
abbrev pub AddsChild : Path → List ℕ → List ℕ → LockedTree → LockedTree → Type 0
AddsChild path name id old new = (path ≡ child [] old.next_child)
    × ((slot : ℕ) × InsertsChild old path name id slot new)
