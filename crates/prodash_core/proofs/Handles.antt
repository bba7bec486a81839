-- Handles that are valid, and what adding a child leaves.
use Rattle.std.proofs.Common.{◌≡◌, ℕ, ◌<◌, List, [], ◌∷◌, ◌++◌, length, Option, Some, None, refl, sym, ap, ◌∙◌}
use Rattle.std.specs.Prelude.{slice_get, slice_set, Ok}
use Rattle.std.proofs.lemmas.Option.{slice_get_within}
use Rattle.std.proofs.lemmas.List.{set-append_left}
use Rattle.std.specs.FinMap as finite
use Rattle.prodash_base.specs.Path.{Path, child}
use Rattle.prodash_base.specs.Rings.{Ring}
use Rattle.prodash_core.specs.Tables.{new_entry, Table}
use Rattle.prodash_core.specs.declared.tree.slot.Slot.{Slot}
use Rattle.prodash_core.specs.Trees.{Tree, Outcome, if_valid, new_slot, with_child, add_child, for_slot, with_handle}
use Rattle.prodash_core.specs.plumbing.Handles.{or_gone}
use Rattle.prodash_core.specs.declared.tree.event.Reply.TheVariants as replies

found : (o : Option Slot) (slot : Slot) → Ok slot ≡ or_gone o → o ≡ Some slot
found None slot e = cc
found (Some x) slot e = cc

within_by : (slots : List Slot) (n : ℕ) (slot : Slot) (o : Option Slot) → slice_get slots n ≡ o → if_valid o ≡ Some slot → n < length slots
within_by slots n slot None e l = cc
within_by slots n slot (Some x) e l = slice_get_within slots n x e

set_push : (slots : List Slot) (n : ℕ) (slot other : Slot) → n < length slots → slice_set (slots ++ other ∷ []) n slot ≡ slice_set slots n slot ++ other ∷ []
set_push slots n slot other l = set-append_left slots (other ∷ []) n slot l

abbrev adding : Tree → ℕ → List ℕ → List ℕ → Outcome
adding t parent name id = with_handle t parent (λ slot. Ok (add_child t parent slot name id, replies.Made (length t.slots)))

-- what adding a child leaves, put together from its steps
pub adds_child : (table after : Table ℕ) (slots pushed put : List Slot) (ring : Ring) (parent made : ℕ) (slot : Slot) (path : Path) (name id : List ℕ)
    → Ok slot ≡ or_gone (if_valid (slice_get slots parent)) → made ≡ length slots → path ≡ child slot.key slot.next_child → pushed ≡ slots ++ new_slot path ∷ []
    → after ≡ finite.insert table path (new_entry name id) → put ≡ slice_set pushed parent (with_child slot)
    → adding (record { table = table; slots = slots; ring = ring }) parent name id
    ≡ Ok (record { table = after; slots = put; ring = ring }, replies.Made made)
adds_child table after slots pushed put ring parent made slot path name id valid m k e i s =
    let t : Tree = record { table = table; slots = slots; ring = ring } in
    let returned : Slot → Outcome = λ slot. Ok (add_child t parent slot name id, replies.Made (length slots)) in
    let at = found (if_valid (slice_get slots parent)) slot valid in
    let table_is : finite.insert table (child slot.key slot.next_child) (new_entry name id) ≡ after =
    sym (i ∙ ap (λ (q : Path). finite.insert table q (new_entry name id)) k) in
    let slots_are : slice_set slots parent (with_child slot) ++ new_slot (child slot.key slot.next_child) ∷ [] ≡ put =
    sym (s ∙ ap (λ xs. slice_set xs parent (with_child slot)) e ∙ set_push slots parent (with_child slot) (new_slot path) (within_by slots parent slot (slice_get slots parent) refl at)
    ∙ ap (λ (q : Path). slice_set slots parent (with_child slot) ++ new_slot q ∷ []) k) in
    ap (λ o. for_slot o returned) at ∙ (λ j. Ok (record { table = table_is j; slots = slots_are j; ring = ring }, replies.Made (sym m j)))
