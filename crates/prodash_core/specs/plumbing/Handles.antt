-- Handles: their slots, and what a call on one returns.
use Rattle.std.specs.Prelude.{◌≡◌, ℕ, ◌+◌, ◌%◌, ◌^◌, Bool, true, false, List, Option, Some, None, slice_get, slice_set, Result, Ok, Err, MatchOption}
use Rattle.prodash_base.specs.declared.refusal.Refusal.{Refusal}
use Rattle.prodash_base.specs.declared.refusal.Refusal.TheVariants as refusals
use Rattle.prodash_core.specs.declared.tree.slot.Slot.{Slot}
use Rattle.prodash_core.specs.declared.tree.event.Reply.{Reply}
use Rattle.prodash_core.specs.declared.tree.event.Reply.TheVariants as replies
use Rattle.prodash_core.specs.Trees.{if_valid}

-- the slot of a valid handle is changed, and nothing if the handle isn't valid
abbrev pub SetsSlot : List Slot → ℕ → (Slot → Slot) → Bool → List Slot → Type 0
SetsSlot slots n f found after =
    MatchOption (if_valid (slice_get slots n)) ((found ≡ false) × (after ≡ slots))
    (λ slot. (found ≡ true) × (after ≡ slice_set slots n (f slot)))

-- the slot whose counter is raised by this step, modulo 2^64
abbrev pub raised : ℕ → Slot → Slot
raised step slot = record slot { counter = (slot.counter + step) % 2 ^ 64 }

-- the slot, or the refusal if there is none
abbrev pub or_gone : Option Slot → Result Slot Refusal
or_gone None = Err refusals.Gone
or_gone (Some slot) = Ok slot

-- what an event returns whose reply is `Done`, if it isn't refused
abbrev pub done_if_ok : {A : Type 0} → Result A Refusal → Result Reply Refusal
done_if_ok (Ok x) = Ok replies.Done
done_if_ok (Err refusal) = Err refusal
