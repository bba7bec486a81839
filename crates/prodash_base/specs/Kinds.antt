-- The kinds of units, and what they show.
use Rattle.std.specs.Prelude.{ℕ, List, Bool, true, false, ◌&&◌, nat_eq}
use Rattle.prodash_base.specs.Numbers.{same_numbers}
use Rattle.std.specs.Cmp.Lexicographic.{pointwise}
use Rattle.prodash_base.specs.Scales.{Scaling, Scalings, scales_of}
use Rattle.prodash_base.specs.Shown.{Shown, label_shown, range_shown, bytes_shown, duration_shown, human_shown, scaled_shown}
use Rattle.prodash_base.specs.declared.unit.kind.Kind.{Kind}
use Rattle.prodash_base.specs.declared.unit.kind.Kind.TheVariants as kinds

-- a kind of unit, with the bytes of its name, the number of its decimals, and its scales
pub data Quantity : Type 0 where
  Label : List ℕ → Quantity
  Bytes : Quantity
  Duration : Quantity
  Human : ℕ → List ℕ → Quantity
  Range : List ℕ → Quantity
  Scaled : Scalings → List ℕ → Quantity

-- the quantity of a kind
abbrev pub quantity_of : Kind → Quantity
quantity_of (kinds.Label name) = Label name.now
quantity_of (kinds.Bytes _) = Bytes
quantity_of (kinds.Duration _) = Duration
quantity_of (kinds.Human human) = Human human.formatter.decimals human.name.now
quantity_of (kinds.Range range) = Range range.name.now
quantity_of (kinds.Scaled scaled) = Scaled (scales_of scaled) scaled.name.now

-- the texts of a quantity
abbrev pub quantity_shown : Quantity → Shown
quantity_shown (Label name) = label_shown name
quantity_shown Bytes = bytes_shown
quantity_shown Duration = duration_shown
quantity_shown (Human decimals name) = human_shown decimals name
quantity_shown (Range name) = range_shown name
quantity_shown (Scaled scales name) = scaled_shown scales name

-- the texts of a kind
abbrev pub kind_shown : Kind → Shown
kind_shown kind = quantity_shown (quantity_of kind)

-- the test of equal scales
abbrev pub same_scaling : Scaling → Scaling → Bool
same_scaling s t =
    nat_eq s.factor t.factor && (nat_eq s.decimals t.decimals && same_numbers s.suffix t.suffix)

-- the test of equal scales of two units
abbrev pub same_scalings : Scalings → Scalings → Bool
same_scalings s t =
    same_numbers s.separator t.separator && pointwise same_scaling s.scales t.scales

-- the test of equal quantities, which is true exactly of equal values
abbrev pub same_quantity : Quantity → Quantity → Bool
same_quantity (Label name) (Label other) = same_numbers name other
same_quantity Bytes Bytes = true
same_quantity Duration Duration = true
same_quantity (Human decimals name) (Human places other) =
    same_numbers name other && nat_eq decimals places
same_quantity (Range name) (Range other) = same_numbers name other
same_quantity (Scaled scales name) (Scaled others other) =
    same_numbers name other && same_scalings scales others
same_quantity _ _ = false
