-- What the traits speak of: counters of steps, and messages about them.
use Rattle.std.specs.Prelude.{◌≡◌, ℕ, List, Option}
use Rattle.std.specs.DynBox.{dyn_box_with}
use Rattle.std.specs.declared.alloc.Global.{Global}
use Rattle.std.specs.declared.dyn_box.DynBox.{DynBox}
use Rattle.std.specs.declared.sync.Arc.{Arc}
use Rattle.std.specs.declared.sync.atomic.AtomicU64.{AtomicU64}
use Rattle.prodash_base.specs.ThroughputMessages.{done_message}
use Rattle.prodash_base.specs.declared.unit.units.Unit.{Unit}

-- an owner of a counter of steps
abbrev pub Counter : Type 0
Counter = Arc AtomicU64 Global

-- such a message was sent, of steps that are shown, and of the unit that it has, or of none
abbrev pub SendsThroughput : (ℕ → Type 0) → (Option Unit → Type 0) → (List ℕ → Type 0) → ℕ → ℕ → Type 0
SendsThroughput shows has_unit was_sent start now = (step : ℕ) × (unit : Option Unit)
    × shows step × has_unit unit × was_sent (done_message unit step start now)

-- the same box, with a value of the same type, of which the fact holds
abbrev pub Becomes : {X Z : Type 0} {F : X → Type 0} → (it : DynBox X Z F) → (F it.vtable → Type 0) → DynBox X Z F → Type 0
Becomes {F = F} it fact after =
    (value : F it.vtable) × fact value × (after ≡ dyn_box_with it it.vtable value)
