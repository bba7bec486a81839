-- What units show, and the texts of their displays.
use Rattle.std.specs.Prelude.{List, ℕ, codes, Bool, ◌&&◌, Option, Some, None}
use Rattle.std.specs.Bool.{beq}
use Rattle.std.specs.Option.{option_eq}
use Rattle.std.specs.declared.alloc.Global.{Global}
use Rattle.prodash_base.specs.Shown.{Shown, label_shown}
use Rattle.prodash_base.specs.Kinds.{Quantity, quantity_of, same_quantity, kind_shown}
use Rattle.prodash_base.specs.Displays.{all_text, part_text, same_location}
use Rattle.prodash_base.specs.declared.unit.display.Amount.{Amount}
use Rattle.prodash_base.specs.declared.unit.display.Mode.{Mode}
use Rattle.prodash_base.specs.declared.unit.units.Unit.{Unit}
use Rattle.prodash_base.specs.declared.unit.units.UnitDisplay.{UnitDisplay}
use Rattle.prodash_base.specs.declared.unit.display.Part.TheVariants.{All}

-- what a unit says: its quantity, and how a percentage and a throughput are shown with it, if they are
pub record Measure : Type 0 where
  pub quantity : Quantity
  pub mode : Option Mode

-- what a unit of the program says
abbrev pub measure_of : Unit → Measure
measure_of unit = record { quantity = quantity_of unit.kind; mode = unit.mode }

-- the test of equal modes
abbrev pub same_mode : Mode → Mode → Bool
same_mode m n =
    same_location m.location n.location
    && (beq m.percentage n.percentage && beq m.throughput n.throughput)

-- the test of units that say the same, which is true exactly of equal values
abbrev pub same_measure : Measure → Measure → Bool
same_measure u v = same_quantity u.quantity v.quantity && option_eq same_mode u.mode v.mode

-- the texts of a unit; of no unit, those of the label `items`
abbrev pub unit_shown : Option Unit → Shown
unit_shown None = label_shown (codes "items")
unit_shown (Some unit) = kind_shown unit.kind

-- a value in a unit in full
abbrev pub all_text_of : Unit → Amount → List ℕ
all_text_of unit = all_text (kind_shown unit.kind) unit.mode

-- the display of a value in a unit in full; the allocator serves `Display` alone
abbrev pub display_of : Unit → Global → Amount → UnitDisplay
display_of unit alloc a = record { unit = unit; amount = a; part = All; alloc = alloc }

-- the text of a display
abbrev pub display_text : UnitDisplay → List ℕ
display_text d = part_text d.part (kind_shown d.unit.kind) d.unit.mode d.amount
