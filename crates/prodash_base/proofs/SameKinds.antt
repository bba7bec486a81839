-- Units are compared by what they say: the comparison of kinds that is derived is the test of quantities.
use Rattle.std.proofs.Common.{rules, ◌≡◌, ◌∙◌, ◌&&◌, List, map, Option, Some, None, refl, sym}
use Rattle.std.specs.Cmp.Lexicographic.{pointwise}
use Rattle.std.specs.Cmp.Derive.Mapped.{pointwise-map}
use Rattle.std.specs.Option.{option_eq, option_map}
use Rattle.prodash_base.specs.Numbers.{same_numbers}
use Rattle.prodash_base.specs.Kinds.{quantity_of, same_quantity, same_scaling, same_scalings}
use Rattle.prodash_base.specs.Scales.{scaling_of, scales_of}
use Rattle.prodash_base.specs.Units.{measure_of, same_measure}
use Rattle.prodash_base.specs.declared.unit.kind.Kind.{Kind}
use Rattle.prodash_base.specs.declared.unit.scaled.Scale.{Scale}
use Rattle.prodash_base.specs.declared.unit.scaled.Scaled.{Scaled}
use Rattle.prodash_base.specs.declared.unit.units.Unit.{Unit}
use Rattle.prodash_base.specs.contracts.unit.kind.KindPartialEq.TheImpl as kind
use Rattle.prodash_base.specs.contracts.unit.scaled.ScalePartialEq.TheImpl as scale
use Rattle.prodash_base.specs.contracts.unit.scaled.ScaledPartialEq.TheImpl as scaled
use Rattle.prodash_base.specs.contracts.unit.units.UnitPartialEq.TheImpl as unit

same_as_scale : (s t : Scale) → scale.ghosts.eq s t ≡ same_scaling (scaling_of s) (scaling_of t)
same_as_scale s t = search rules

same_as_scales : (scales others : List Scale)
    → pointwise scale.ghosts.eq scales others ≡ pointwise same_scaling (map scaling_of scales) (map scaling_of others)
same_as_scales scales others =
    (λ i. pointwise (λ s t. same_as_scale s t i) scales others) ∙ sym (pointwise-map scaling_of same_scaling scales others)

same_as_scaled : (s t : Scaled)
    → scaled.ghosts.eq s t ≡ (same_numbers s.name.now t.name.now && same_scalings (scales_of s) (scales_of t))
same_as_scaled s t = search (rules, same_as_scales)

same_as_kind : (k l : Kind) → kind.ghosts.eq k l ≡ same_quantity (quantity_of k) (quantity_of l)
same_as_kind k l = search (rules, same_as_scaled)

pub same_as_unit : (u v : Unit) → unit.ghosts.eq u v ≡ same_measure (measure_of u) (measure_of v)
same_as_unit u v = search (rules, same_as_kind)

pub same_as_units : (u v : Option Unit)
    → option_eq unit.ghosts.eq u v ≡ option_eq same_measure (option_map measure_of u) (option_map measure_of v)
same_as_units None None = refl
same_as_units None (Some v) = refl
same_as_units (Some u) None = refl
same_as_units (Some u) (Some v) = same_as_unit u v
