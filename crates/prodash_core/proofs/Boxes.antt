-- What a call makes of the value in a box, it makes of the box.
use Rattle.std.proofs.Common.{◌≡◌, subst, sym, refl}
use Rattle.std.specs.DynBox.{dyn_box_with}
use Rattle.std.specs.declared.dyn_box.DynBox.{DynBox}
use Rattle.prodash_core.specs.Traits.{Becomes}

-- `d` is the value in the box, with its vtable, as the call was given it
pub becomes : {X Z : Type 0} {F : X → Type 0} (it : DynBox X Z F) (d : (i : X) × F i)
    (fact : (i : X) → F i → F i → Type 0) (new : F d.0)
    → d ≡ (it.vtable, it.value) → fact d.0 d.1 new
    → Becomes it (fact it.vtable it.value) (dyn_box_with it d.0 new)
becomes {F = F} it d fact new is_held holds =
    subst (λ e. (new : F e.0) → fact e.0 e.1 new
    → Becomes it (fact it.vtable it.value) (dyn_box_with it e.0 new))
    (sym is_held) (λ new holds. (new, holds, refl)) new holds
