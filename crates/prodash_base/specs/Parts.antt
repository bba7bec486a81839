-- The part that a display shows once a reference to it has ended.
use Rattle.std.specs.Prelude.{◌≡◌, ⊤}
use Rattle.std.specs.Borrow.{follows_so, MutBor, Fml}
use mathlib.Core.Option.{none}
use Rattle.prodash_base.specs.declared.unit.units.UnitDisplay.{UnitDisplay}
use Rattle.prodash_base.specs.declared.unit.display.Part.{Part}
use Rattle.prodash_base.specs.contracts.unit.units.UnitDisplay.{the_row}

-- the display shows this part from then on
abbrev pub EndsShowing : MutBor UnitDisplay → Part → Fml
EndsShowing d part =
    follows_so the_row the_row d.ghost_name none (λ _ _. ⊤) (λ last. last ≡ record d.now { part = part })
