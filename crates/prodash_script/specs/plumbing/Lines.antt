-- The parts of lines that are written.
use Rattle.std.specs.Prelude.{ℕ, List, ◌++◌, Option, Some, MatchOption, String, string_bytes}
use Rattle.prodash_base.specs.declared.unit.units.Unit.{Unit}
use Rattle.prodash_script.specs.Units.{NamesUnit, name_in}

-- a unit whose word is not its name with these signs before it, nor with them after it
abbrev pub HasNoWordWith : List ℕ → Unit → Type 0
HasNoWordWith signs unit =
    (¬ NamesUnit (Some unit) (signs ++ name_in unit.kind))
    × (¬ NamesUnit (Some unit) (name_in unit.kind ++ signs))

-- the word of a unit, or none if it has no word with these signs
abbrev pub FindsWordWith : {Z : Type 0} → List ℕ → Unit → Option (String Z) → Type 0
FindsWordWith signs unit found =
    MatchOption found (HasNoWordWith signs unit) (λ word. NamesUnit (Some unit) (string_bytes word))
