-- The scales of units of one's own, and values that are shown in them.
use Rattle.std.specs.Prelude.{ℕ, ◌+◌, min, max, nat_eq, nat_le, nat_lt, List, [], ◌∷◌, ◌++◌, map, reverse, find, slice_get, Option, Some, None, Result, Ok, Err, if◌then◌else◌}
use Rattle.std.specs.Option.{option_or}
use Rattle.std.specs.Fmt.{decimal}
use Rattle.prodash_base.specs.Numerals.{cut}
use Rattle.prodash_base.specs.declared.unit.scaled.Scale.{Scale}
use Rattle.prodash_base.specs.declared.unit.scaled.Scaled.{Scaled}
use Rattle.prodash_base.specs.declared.unit.scaled.ScaleError.{ScaleError}
use Rattle.prodash_base.specs.declared.unit.scaled.ScaleError.TheVariants.{ZeroFactor, FactorNotRising, TooManyDecimals}

-- a scale, with the bytes of its suffix
pub record Scaling : Type 0 where
  pub factor : ℕ
  pub decimals : ℕ
  pub suffix : List ℕ

-- the scales of a unit, with the bytes of its separator
pub record Scalings : Type 0 where
  pub separator : List ℕ
  pub scales : List Scaling

-- a scale of the program, wherever its suffix is stored
abbrev pub scaling_of : Scale → Scaling
scaling_of s = record { factor = s.factor; decimals = s.decimals; suffix = s.suffix.now }

-- the scales of a scaled kind
abbrev pub scales_of : Scaled → Scalings
scales_of scaled = record {
  separator = scaled.scales.now.separator.now;
  scales = map scaling_of scaled.scales.now.scales.now;
}

-- the scale in which n is shown: the last whose factor is at most n, or else the first
abbrev pub scale_at : List Scaling → ℕ → Option Scaling
scale_at scales n = option_or (find (λ s. nat_le s.factor n) (reverse scales)) (slice_get scales 0)

-- n over the factor of a scale, rounded down, with exactly the scale's decimals, and its suffix; n as it is without a scale; the factor 0 counts as 1, and more than six decimals as six
abbrev pub in_scale : ℕ → Option Scaling → List ℕ
in_scale n None = decimal n
in_scale n (Some s) = cut (min s.decimals 6) n (max s.factor 1) ++ s.suffix

-- a value in its scale, as `1.5 KiB`
abbrev pub scaled_text : List Scaling → ℕ → List ℕ
scaled_text scales n = in_scale n (scale_at scales n)

-- what is wrong with a scale of this number that comes after one with this factor, if something is
abbrev pub scale_fault : ℕ → ℕ → Scale → Option ScaleError
scale_fault number before s =
    if nat_eq s.factor 0 then Some (ZeroFactor number)
    else if nat_le s.factor before then Some (FactorNotRising number)
    else if nat_lt 6 s.decimals then Some (TooManyDecimals number)
    else None

-- what is wrong with the first scale that is wrong, where the first has this number and comes after one with this factor; none if all are right
abbrev pub scales_fault : ℕ → ℕ → List Scale → Option ScaleError
scales_fault number before [] = None
scales_fault number before (s ∷ scales) =
    option_or (scale_fault number before s) (scales_fault (number + 1) s.factor scales)

-- a value, unless something is wrong with it
abbrev pub unless_faulty : {A E : Type 0} → Option E → A → Result A E
unless_faulty None value = Ok value
unless_faulty (Some fault) _ = Err fault

-- a scaled kind, or what is wrong with its scales
abbrev pub checked_scales : Scaled → Result Scaled ScaleError
checked_scales scaled = unless_faulty (scales_fault 1 0 scaled.scales.now.scales.now) scaled
