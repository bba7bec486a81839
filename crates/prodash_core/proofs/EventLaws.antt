-- What holds of each event: the messages that it pushes, that its reply is no refusal and owns memory only if it reads, and what the tree refuses.
use Rattle.std.proofs.Common.{rules, ◌≡◌, ◌≢◌, ℕ, ◌∷◌, [], List, refl, Bool, true, false, cond, Ok, Err, Option, Some, None}
use Rattle.std.specs.Prelude.{fold}
use Rattle.prodash_base.specs.Rings.{push, is_push_limit_reached}
use Rattle.prodash_base.specs.declared.refusal.Refusal.TheVariants as refusals
use Rattle.prodash_base.specs.declared.messages.Message.{Message}
use Rattle.prodash_base.specs.declared.messages.MessageLevel.{MessageLevel}
use Rattle.prodash_core.specs.declared.tree.slot.Slot.{Slot}
use Rattle.prodash_core.specs.Trees.{Tree, Outcome, Effect, OnTree, OnRenderer, effect_of, for_slot, message_by, push_message}
use Rattle.prodash_core.specs.Replies.{owns_memory}
use Rattle.prodash_core.specs.Sessions.{is_memory}
use Rattle.prodash_core.specs.Runs.{is_done, sent_from, sent_by}
use Rattle.prodash_core.specs.declared.tree.event.Event.{Event}
use Rattle.prodash_core.specs.declared.tree.event.Reply.{Reply}
use Rattle.prodash_core.specs.declared.tree.event.Reply.TheVariants as replies

-- an accepted event pushes what it sends, if its reply is that it is done; its reply isn't that there was no memory; and if the reply owns memory, the tree is as it was
pub record Accepts (t : Tree) (sent : List Message) (t' : Tree) (reply : Reply) : Type 0 where
  pub ring : t'.ring ≡ fold push t.ring (cond (is_done reply) sent [])
  pub replied : is_memory reply ≡ false
  pub reads : owns_memory reply ≡ true → t' ≡ t

-- the tree refuses no event because there are too many handles
abbrev pub OutcomeLaws : Tree → List Message → Outcome → Type 0
OutcomeLaws t sent (Ok changed) = Accepts t sent changed.0 changed.1
OutcomeLaws t sent (Err refusal) = refusal ≢ refusals.TooManyHandles

-- frames send nothing
abbrev pub EffectLaws : Tree → List Message → Effect → Type 0
EffectLaws t sent (OnTree memory outcome) = OutcomeLaws t sent outcome
EffectLaws t sent (OnRenderer input) = sent ≡ []

for_each : (t : Tree) (sent : List Message) (o : Option Slot) (f : Slot → Outcome) → ((slot : Slot) → OutcomeLaws t sent (f slot)) → OutcomeLaws t sent (for_slot o f)
for_each t sent None f h = λ same. cc
for_each t sent (Some slot) f h = h slot

pushes : (t : Tree) (m : Message) (b : Bool) → OutcomeLaws t (m ∷ []) (cond b (Err refusals.TooManyMessages) (Ok (record t { ring = push t.ring m }, replies.Done)))
pushes t m true = λ same. cc
pushes t m false = record { ring = refl; replied = refl; reads = λ h. cc }

message_laws : (t : Tree) (at : ℕ) (level : MessageLevel) (text : List ℕ) (o : Option Slot)
    → OutcomeLaws t (sent_from t o at level text) (for_slot o (λ slot. push_message t (message_by t slot at level text)))
message_laws t at level text None = λ same. cc
message_laws t at level text (Some slot) = pushes t (message_by t slot at level text) (is_push_limit_reached t.ring)

-- the laws of each event
pub effect_laws : (t : Tree) (e : Event) → EffectLaws t (sent_by t e) (effect_of t e)
effect_laws t e = search (rules, for_each, message_laws)
