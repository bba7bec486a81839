-- Calls on a recorded tree under its lock: their entries and receipts.
use Rattle.prodash_base.specs.declared.refusal.Refusal.{Refusal}
use Rattle.prodash_core.specs.declared.tree.event.Reply.TheVariants as replies
use Rattle.std.specs.Prelude.{◌≡◌, ℕ, Result, [], ◌∷◌, ◌++◌, length, Option, Some, None, Ok}
use Rattle.prodash_core.specs.Trees.{Applies}
use Rattle.prodash_core.specs.declared.tree.event.Event.{Event}
use Rattle.prodash_core.specs.declared.tree.event.Reply.{Reply}
use Rattle.prodash.specs.Journals.{Recorded, Received}

-- The event is accepted with this reply, and gets an entry.
pub record Records (old : Recorded) (e : Event) (reply : Reply) (new : Recorded) : Type 0 where
  pub applied : Applies old.tree e (Ok reply) new.tree
  pub entry : new.entries ≡ old.entries ++ (e, reply) ∷ []

-- the same of a recorded tree whose journal isn't taken out
abbrev pub RecordsIn : Option Recorded → Event → Reply → Option Recorded → Type 0
RecordsIn (Some old) e reply (Some new) = Records old e reply new
RecordsIn _ e reply _ = ⊥

-- The receipt is that of the next call on a recorded tree whose journal isn't taken out.
abbrev pub IsReceiptOf : Option Recorded → Event → Reply → Received → Type 0
IsReceiptOf (Some recorded) e reply receipt =
    receipt ≡ record { number = length recorded.entries; event = e; reply = reply }
IsReceiptOf None e reply receipt = ⊥

-- the number in a reply to `NumTasks`, or 0 if there is none
abbrev pub count_in : Result Reply Refusal → ℕ
count_in (Ok (replies.Count tasks)) = tasks
count_in _ = 0
