-- What a call of a task keeps in one turn.
use Rattle.std.proofs.Common.{◌≡◌, ℕ, Result, IsOk}
use Rattle.prodash_base.specs.declared.refusal.Refusal.{Refusal}
use Rattle.prodash_core.specs.declared.tree.event.Event.{Event}
use Rattle.prodash_core.specs.declared.tree.event.Reply.{Reply}
use Rattle.prodash.specs.Recorders.{Kept, KeepsCall, CollectsSteps, KeepsTaskCall, OfCallTurn, InCallTurn, Tells, Makes, Reads}
use Rattle.prodash.specs.declared.tree.turns.Turn.{Turn}

pub in_call_turn : (found left : OfCallTurn) (fact : Kept → Kept → Type 0) (turn : Turn) (old new : Kept)
    → found turn old → left turn new → fact old new → InCallTurn found left fact
in_call_turn found left fact turn old new from to h = (turn, old, new, from, to, h)

pub keeps_task_call : (item : ℕ) (e : Event) (made : Result Reply Refusal) (old between new : Kept)
    → CollectsSteps item old between → KeepsCall e made between new → KeepsTaskCall item e made old new
keeps_task_call item e made old between new collected kept = (between, collected, kept)

-- a call whose result nobody reads
pub tells : (found left : OfCallTurn) (item : ℕ) (e : Event) (made : Result Reply Refusal)
    → InCallTurn found left (KeepsTaskCall item e made) → Tells found left item e
tells found left item e made h = (made, tt, h)

-- a call that is accepted
pub makes : (found left : OfCallTurn) (item : ℕ) (e : Event) (made : Result Reply Refusal)
    → IsOk made → InCallTurn found left (KeepsTaskCall item e made) → Makes found left item e
makes found left item e made is_ok h = (made, is_ok, h)

-- a call from whose result a value is read
pub reads : {A : Type 0} (found left : OfCallTurn) (item : ℕ) (e : Event) (read : Result Reply Refusal → A)
    (value : A) (made : Result Reply Refusal)
    → value ≡ read made → InCallTurn found left (KeepsTaskCall item e made) → Reads found left item e read value
reads found left item e read value made is h = (made, is, h)

-- what a call of a task keeps in its turn
pub ruleset turning = (in_call_turn, keeps_task_call)

-- what the traits say of a call that was made
pub ruleset calling = (tells, makes, reads)
