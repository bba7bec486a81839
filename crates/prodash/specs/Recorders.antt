-- Recorders: what the calls of tasks on a recorded tree add to what is kept of them.
use Rattle.std.specs.Prelude.{◌≡◌, ℕ, ◌⊎◌, List, [], ◌∷◌, ◌++◌, length, Option, Some, None, Result, Ok, Err, IsOk}
use Rattle.std.specs.List.{sum_by}
use Rattle.prodash_base.specs.Rows.{unknown_id}
use Rattle.prodash_base.specs.declared.refusal.Refusal.{Refusal}
use Rattle.prodash_base.specs.declared.refusal.Refusal.TheVariants.{Memory}
use Rattle.prodash_base.specs.declared.unit.units.Unit.{Unit}
use Rattle.prodash_core.specs.declared.tree.event.Event.{Event}
use Rattle.prodash_core.specs.declared.tree.event.Event.TheVariants.{AddChild, IncBy}
use Rattle.prodash_core.specs.declared.tree.event.Reply.{Reply}
use Rattle.prodash_core.specs.declared.tree.event.Reply.TheVariants as replies
use Rattle.prodash.specs.Journals.{Received, Tally, IsAfter, RefusesCall, amount_of}
use Rattle.prodash.specs.declared.tree.turns.Turn.{Turn}

-- what a recorder keeps of its calls: the receipts of those that were accepted, in order, and the
-- refusal of the first that was refused
pub record Kept : Type 0 where
  pub receipts : List Received
  pub refusal : Option Refusal

-- what is kept of no call
abbrev pub nothing_kept : Kept
nothing_kept = record { receipts = []; refusal = None }

-- the first of an earlier refusal, if there is one, and this one
abbrev pub first_refusal : Option Refusal → Refusal → Option Refusal
first_refusal None refusal = Some refusal
first_refusal (Some first) refusal = Some first

-- one receipt more
abbrev pub with_receipt : Kept → Received → Kept
with_receipt kept receipt = record kept { receipts = kept.receipts ++ receipt ∷ [] }

-- one refusal more
abbrev pub with_refusal : Kept → Refusal → Kept
with_refusal kept refusal = record kept { refusal = first_refusal kept.refusal refusal }

-- A call with this event has this result. If it is accepted, its receipt is kept, with the number of
-- its entry in the journal, and else its refusal.
abbrev pub KeepsCall : Event → Result Reply Refusal → Kept → Kept → Type 0
KeepsCall e (Ok reply) old new = (number : ℕ)
    × (new ≡ with_receipt old (record { number = number; event = e; reply = reply }))
KeepsCall e (Err refusal) old new = new ≡ with_refusal old refusal

-- If steps were added to the counter of an item, a call adds them to the item.
abbrev pub CollectsSteps : ℕ → Kept → Kept → Type 0
CollectsSteps item old new = (new ≡ old)
    ⊎ ((step : ℕ) × (made : Result Reply Refusal) × KeepsCall (IncBy item step) made old new)

-- The steps of an item's counter are collected, and then a call with this event has this result.
abbrev pub KeepsTaskCall : ℕ → Event → Result Reply Refusal → Kept → Kept → Type 0
KeepsTaskCall item e made old new =
    (between : Kept) × CollectsSteps item old between × KeepsCall e made between new

-- A call adds a task below the item with the first handle, or below the root, and its reply has the
-- second handle.
abbrev pub AddsTask : ℕ → List ℕ → List ℕ → ℕ → Kept → Kept → Type 0
AddsTask parent name id child old new =
    KeepsCall (AddChild parent name id) (Ok (replies.Made child)) old new

-- what the receipts of an item's calls come to
abbrev pub tally_of : List Received → Tally
tally_of receipts = record {
  calls = length receipts;
  sum = sum_by (λ receipt. amount_of receipt.event) receipts;
}

-- the number of the last receipt, or the one before all if there is none
abbrev pub last_of : Option ℕ → List Received → Option ℕ
last_of before [] = before
last_of before (receipt ∷ receipts) = last_of (Some receipt.number) receipts

-- The numbers of the receipts rise, from the one before all.
abbrev pub RisesFrom : Option ℕ → List Received → Type 0
RisesFrom before [] = Prim.Unit {0}
RisesFrom before (receipt ∷ receipts) =
    IsAfter before receipt.number × RisesFrom (Some receipt.number) receipts

-- The numbers of the receipts rise.
abbrev pub Rises : List Received → Type 0
Rises receipts = RisesFrom None receipts

-- why a call may be refused, also if there is no memory for its receipt
abbrev pub RefusesKept : Event → Refusal → Type 0
RefusesKept e refusal = (refusal ≡ Memory) ⊎ RefusesCall e refusal

-- what is known of a turn and what was kept as it began, or as it ended
abbrev pub OfCallTurn : Type 1
OfCallTurn = Turn → Kept → Type 0

-- The fact holds of what was kept as one turn began and as the same turn ended.
abbrev pub InCallTurn : OfCallTurn → OfCallTurn → (Kept → Kept → Type 0) → Type 0
InCallTurn found left fact = (turn : Turn) × (old : Kept) × (new : Kept)
    × found turn old × left turn new × fact old new

-- In one turn a task made a call with this event, and the fact holds of its result.
abbrev pub Calls : OfCallTurn → OfCallTurn → ℕ → Event → (Result Reply Refusal → Type 0) → Type 0
Calls found left item e fact = (made : Result Reply Refusal) × fact made
    × InCallTurn found left (KeepsTaskCall item e made)

-- In one turn a task made a call with this event, whatever its result.
abbrev pub Tells : OfCallTurn → OfCallTurn → ℕ → Event → Type 0
Tells found left item e = Calls found left item e (λ made. Prim.Unit {0})

-- In one turn a task made a call with this event, which was accepted.
abbrev pub Makes : OfCallTurn → OfCallTurn → ℕ → Event → Type 0
Makes found left item e = Calls found left item e (λ made. IsOk made)

-- In one turn a task made a call with this event, and this was read from its result.
abbrev pub Reads : {A : Type 0} → OfCallTurn → OfCallTurn → ℕ → Event → (Result Reply Refusal → A) → A → Type 0
Reads found left item e read value = Calls found left item e (λ made. value ≡ read made)

-- the step in a reply, or 0
abbrev pub step_in : Result Reply Refusal → ℕ
step_in (Ok (replies.Step step)) = step
step_in _ = 0

-- the bound in a reply, or none
abbrev pub bound_in : Result Reply Refusal → Option ℕ
bound_in (Ok (replies.Bound max)) = max
bound_in _ = None

-- the unit in a reply, or none
abbrev pub unit_in : Result Reply Refusal → Option Unit
unit_in (Ok (replies.Unit unit)) = unit
unit_in _ = None

-- the identifier in a reply, or the unknown one
abbrev pub id_in : Result Reply Refusal → List ℕ
id_in (Ok (replies.Id id)) = id
id_in _ = unknown_id

-- the name in a reply, or none
abbrev pub name_in : Result Reply Refusal → Option (List ℕ)
name_in (Ok (replies.Name name)) = name
name_in _ = None
