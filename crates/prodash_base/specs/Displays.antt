-- Values with their bounds, units, percentages and throughputs as texts.
use Rattle.std.specs.Prelude.{ℕ, ◌&&◌, Bool, true, false, List, [], ◌∷◌, ◌++◌, codes, Option, Some, None, if◌then◌else◌}
use Rattle.prodash_base.specs.Quantities.{percentage_of}
use Rattle.prodash_base.specs.Shown.{Shown}
use Rattle.prodash_base.specs.declared.unit.display.Amount.{Amount}
use Rattle.prodash_base.specs.declared.unit.display.Throughput.{Throughput}
use Rattle.prodash_base.specs.declared.unit.display.Mode.{Mode}
use Rattle.prodash_base.specs.declared.unit.display.Part.{Part}
use Rattle.prodash_base.specs.declared.unit.display.Part.TheVariants.{All, Values, UnitAlone}
use Rattle.prodash_base.specs.declared.unit.display.Location.{Location}
use Rattle.prodash_base.specs.declared.unit.display.Location.TheVariants.{BeforeValue, AfterUnit}

-- a value, with its bound and its throughput if known
abbrev pub amount : ℕ → Option ℕ → Option Throughput → Amount
amount value bound throughput = record { value = value; bound = bound; throughput = throughput }

-- the test of equal locations
abbrev pub same_location : Location → Location → Bool
same_location BeforeValue BeforeValue = true
same_location AfterUnit AfterUnit = true
same_location _ _ = false

-- the percentage that is shown at a location, if any
abbrev pub percentage_at : Option Mode → Location → ℕ → Option ℕ → Option ℕ
percentage_at (Some mode) location value (Some bound) =
    if mode.percentage && same_location mode.location location then Some (percentage_of value bound) else None
percentage_at _ _ _ _ = None

-- the throughput that is shown at a location, if any
abbrev pub throughput_at : Option Mode → Location → Option Throughput → Option Throughput
throughput_at (Some mode) location throughput =
    if mode.throughput && same_location mode.location location then throughput else None
throughput_at None _ _ = None

-- a text with the space between it and the value or the unit
abbrev pub placed : Location → List ℕ → List ℕ
placed BeforeValue text = text ++ codes " "
placed AfterUnit text = codes " " ++ text

-- a percentage at a location; nothing if there is none
abbrev pub placed_percentage : Shown → Location → Option ℕ → List ℕ
placed_percentage s location None = []
placed_percentage s location (Some percentage) = placed location (s.percentage percentage)

-- a throughput at a location; nothing if there is none
abbrev pub placed_throughput : Shown → Location → Option Throughput → List ℕ
placed_throughput s location None = []
placed_throughput s location (Some throughput) = placed location (s.throughput throughput)

-- the percentage and the throughput that are shown at a location
abbrev pub text_at : Shown → Option Mode → Location → Amount → List ℕ
text_at s mode location a =
    placed_percentage s location (percentage_at mode location a.value a.bound)
    ++ placed_throughput s location (throughput_at mode location a.throughput)

-- the separator and the bound; nothing if there is no bound
abbrev pub bound_text : Shown → ℕ → Option ℕ → List ℕ
bound_text s value None = []
bound_text s value (Some bound) = s.separator value (Some bound) ++ s.upper_bound bound value

-- the value with its bound, and what is shown before it
abbrev pub values_text : Shown → Option Mode → Amount → List ℕ
values_text s mode a =
    text_at s mode BeforeValue a ++ s.value a.value a.bound ++ bound_text s a.value a.bound

-- the unit, and what is shown after it
abbrev pub unit_text : Shown → Option Mode → Amount → List ℕ
unit_text s mode a = s.unit a.value ++ text_at s mode AfterUnit a

-- a space and a text; nothing if the text is empty
abbrev pub spaced : List ℕ → List ℕ
spaced [] = []
spaced (c ∷ cs) = 32 ∷ c ∷ cs

-- the values, the unit, and what is shown after it
abbrev pub all_text : Shown → Option Mode → Amount → List ℕ
all_text s mode a =
    values_text s mode a ++ spaced (s.unit a.value) ++ text_at s mode AfterUnit a

-- a part of a value
abbrev pub part_text : Part → Shown → Option Mode → Amount → List ℕ
part_text All = all_text
part_text Values = values_text
part_text UnitAlone = unit_text
