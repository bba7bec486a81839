-- Journals: the accepted events of a tree, each with its reply.
use Rattle.std.specs.Prelude.{◌≡◌, ℕ, ◌+◌, ◌<◌, ◌⊎◌, List, [], ◌∷◌, slice_get, Option, Some, None, Ok}
use Rattle.std.specs.List.{sum_by}
use Rattle.std.specs.Option.{ForSome}
use Rattle.prodash_base.specs.declared.refusal.Refusal.{Refusal}
use Rattle.prodash_base.specs.declared.refusal.Refusal.TheVariants.{Memory, TooManyHandles}
use Rattle.prodash_core.specs.Refusals.{refusal_of}
use Rattle.prodash_core.specs.Trees.{Tree, new_tree, Applies}
use Rattle.prodash_core.specs.declared.tree.event.Event.{Event}
use Rattle.prodash_core.specs.declared.tree.event.Event.TheVariants.{IncBy}
use Rattle.prodash_core.specs.declared.tree.event.Reply.{Reply}

-- The entries lead from one tree to another: each event, in order, is accepted and has the entry's
-- reply. So no event is a frame.
abbrev pub Leads : Tree → List (Event × Reply) → Tree → Type 0
Leads t [] t' = t' ≡ t
Leads t (entry ∷ entries) t' =
    (t₁ : Tree) × Applies t entry.0 (Ok entry.1) t₁ × Leads t₁ entries t'

-- The entries replay: they lead from a tree with nothing but its root, which keeps this many
-- messages, to the other tree.
abbrev pub Replays : ℕ → List (Event × Reply) → Tree → Type 0
Replays capacity entries t = Leads (new_tree capacity) entries t

-- the entries replay and end at some tree
abbrev pub IsJournal : ℕ → List (Event × Reply) → Type 0
IsJournal capacity entries = (t : Tree) × Replays capacity entries t

-- what an event adds to the counter of an item
abbrev pub amount_of : Event → ℕ
amount_of (IncBy n step) = step
amount_of _ = 0

-- what all events of a journal add, without a bound
abbrev pub amount : List (Event × Reply) → ℕ
amount entries = sum_by (λ entry. amount_of entry.0) entries

-- a recorded tree: how many messages it keeps, its state, and its journal
pub record Recorded : Type 0 where
  pub capacity : ℕ
  pub tree : Tree
  pub entries : List (Event × Reply)

-- what an item has done: the number of its accepted calls, and the sum of what they add
pub record Tally : Type 0 where
  pub calls : ℕ
  pub sum : ℕ

-- the tally of an item that has made no call
abbrev pub no_calls : Tally
no_calls = record { calls = 0; sum = 0 }

-- the tally after an accepted call
abbrev pub with_call : Tally → Event → Tally
with_call tally e = record { calls = tally.calls + 1; sum = tally.sum + amount_of e }

-- the number of all shares' calls together
abbrev pub calls_of : List Tally → ℕ
calls_of shares = sum_by (λ share. share.calls) shares

-- the sum of all shares' sums
abbrev pub sum_of : List Tally → ℕ
sum_of shares = sum_by (λ share. share.sum) shares

-- the owner of a recorded tree: how many shares had been made when it was opened
pub record Opened : Type 0 where
  pub made : ℕ

-- a receipt of an accepted call: the number of its entry in the journal, its event and its reply
pub record Received : Type 0 where
  pub number : ℕ
  pub event : Event
  pub reply : Reply

-- The entry at the receipt's number has its event and its reply.
abbrev pub HasEntryOf : List (Event × Reply) → Received → Type 0
HasEntryOf entries receipt =
    slice_get entries receipt.number ≡ Some (receipt.event, receipt.reply)

-- an item of a recorded tree: what it has done, and the number of its last accepted call, if any
pub record Caller : Type 0 where
  pub tally : Tally
  pub last : Option ℕ

-- an item that has made no call
abbrev pub new_caller : Caller
new_caller = record { tally = no_calls; last = None }

-- the item after an accepted call that has this number
abbrev pub after_call : Caller → Event → ℕ → Caller
after_call caller e number = record { tally = with_call caller.tally e; last = Some number }

-- The number is greater than that of the last call, if there is one.
abbrev pub IsAfter : Option ℕ → ℕ → Type 0
IsAfter last number = ForSome last (λ n. n < number)

-- why a call may be refused: for memory, if there is no other reason
abbrev pub MayRefuse : Option Refusal → Refusal → Type 0
MayRefuse None refusal = refusal ≡ Memory
MayRefuse (Some reason) refusal = refusal ≡ reason

-- why a call on a recorded tree may be refused: its item has made the most calls, or for what the
-- tree refuses the event
abbrev pub RefusesOn : Option Recorded → Event → Refusal → Type 0
RefusesOn (Some recorded) e refusal =
    (refusal ≡ TooManyHandles) ⊎ MayRefuse (refusal_of recorded.tree e) refusal
RefusesOn None e refusal = refusal ≡ TooManyHandles

-- why a call on some recorded tree may be refused
abbrev pub RefusesCall : Event → Refusal → Type 0
RefusesCall e refusal = (recorded : Option Recorded) × RefusesOn recorded e refusal
