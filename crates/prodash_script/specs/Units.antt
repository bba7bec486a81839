-- The words of units.
use Rattle.std.specs.Prelude.{◌≡◌, ℕ, List, [], ◌∷◌, ◌++◌, Bool, true, false, not, ◌&&◌, ◌||◌, length, codes, Option, Some, None, option_map, nat_lt, nat_eq, bytes_eq, unwrap_or, if◌then◌else◌}
use Rattle.std.specs.List.{list_all, list_any}
use Rattle.std.specs.Option.{option_map_or}
use Rattle.prodash_base.specs.declared.unit.display.Location.TheVariants.{BeforeValue, AfterUnit}
use Rattle.prodash_base.specs.declared.unit.display.Mode.{Mode}
use Rattle.prodash_base.specs.declared.unit.kind.Kind.{Kind}
use Rattle.prodash_base.specs.declared.unit.kind.Kind.TheVariants.{Label, Bytes, Duration, Human, Range, Scaled}
use Rattle.prodash_base.specs.declared.unit.units.Unit.{Unit}
use Rattle.prodash_script.specs.Words.{Reader, after_prefix, before_suffix, lookup, plain_unit, ref_to}

-- a mode that shows a percentage, a throughput or both after the unit
abbrev pub showing : Bool → Bool → Mode
showing percentage throughput =
    record { location = AfterUnit; percentage = percentage; throughput = throughput }

-- a word without its signs, if it has some, and the mode of these; `strip` takes them off
abbrev pub stripped_by : (List ℕ → Reader (List ℕ)) → Reader (List ℕ × Mode)
stripped_by strip word =
    option_map_or (λ name. Some (name, showing true true)) (strip (codes "%/s") word)
    (option_map_or (λ name. Some (name, showing true false)) (strip (codes "%") word)
    (option_map (λ name. (name, showing false true)) (strip (codes "/s") word)))

-- a word without the signs before its name, or else those after it, and the mode of these
abbrev pub name_and_mode : List ℕ → List ℕ × Option Mode
name_and_mode word =
    option_map_or (λ found. (found.0, Some (record found.1 { location = BeforeValue })))
    (stripped_by after_prefix word)
    (option_map_or (λ found. (found.0, Some found.1)) (stripped_by before_suffix word)
    (word, None))

-- a byte of a name: no space, no `%` and no `/`
abbrev pub is_name_byte : ℕ → Bool
is_name_byte b = not (nat_eq b 32) && not (nat_eq b 37) && not (nat_eq b 47)

-- a unit's name: any other text but the empty one and `-`
abbrev pub is_unit_name : List ℕ → Bool
is_unit_name name =
    nat_lt 0 (length name) && not (bytes_eq name (codes "-")) && list_all is_name_byte name

-- the kinds of unit that have names of their own, and a label whose name another kind has
abbrev pub kinds : List (List ℕ × Kind)
kinds =
    (codes "steps", Range (record { name = ref_to (codes "steps") }))
    ∷ (codes "bytes", Bytes (record {}))
    ∷ (codes "duration", Duration (record {}))
    ∷ (
      codes "objects",
      Human (record { name = ref_to (codes "objects"); formatter = record { decimals = 2 } }),
    )
    ∷ (codes "label:steps", Label (ref_to (codes "steps")))
    ∷ []

-- the names that scripts have for kinds of unit whose names in lines of events are others
abbrev pub script_names : List (List ℕ × List ℕ)
script_names =
    (codes "steps", codes "label:steps") ∷ (codes "range:steps", codes "steps") ∷ []

-- the name in lines of events of a kind of unit with this name in scripts
abbrev pub line_name : List ℕ → List ℕ
line_name name = unwrap_or (lookup script_names name) name

-- the kind of unit that a name says: a label, unless it is one of those
abbrev pub kind_in : List ℕ → Kind
kind_in name = unwrap_or (lookup kinds name) (Label (ref_to name))

-- whether a word is that of a unit, or `-`
abbrev pub is_unit_word : List ℕ → Bool
is_unit_word word = bytes_eq word (codes "-") || is_unit_name (name_and_mode word).0

-- the unit that a word says, if names stand for these kinds: none for `-`
abbrev pub unit_by : (List ℕ → Kind) → Reader (Option Unit)
unit_by kind word =
    let parts = name_and_mode word in
    if bytes_eq word (codes "-") then Some None
    else if is_unit_name parts.0 then Some (Some (record { kind = kind parts.0; mode = parts.1 }))
    else None

-- the unit that a word of a line of events says
abbrev pub unit_in : Reader (Option Unit)
unit_in = unit_by kind_in

-- the unit that a word of a script says
abbrev pub script_unit_in : Reader (Option Unit)
script_unit_in = unit_by (λ name. kind_in (line_name name))

-- the name of a label, which is another if the label's own is the name of a range
abbrev pub label_name : List ℕ → List ℕ
label_name name = if bytes_eq name (codes "steps") then codes "label:steps" else name

-- the name of a kind of unit; a scaled one has none
abbrev pub name_in : Kind → List ℕ
name_in (Label name) = label_name name.now
name_in (Human human) = human.name.now
name_in (Range range) = range.name.now
name_in (Bytes bytes) = codes "bytes"
name_in (Duration duration) = codes "duration"
name_in (Scaled scaled) = []

-- a word that says a unit; `-` says none
abbrev pub NamesUnit : Option Unit → List ℕ → Type 0
NamesUnit unit word = unit_in word ≡ Some (option_map plain_unit unit)

-- whether a text is one of some names
abbrev pub is_among : List ℕ → List (List ℕ) → Bool
is_among text names = list_any (λ name. bytes_eq text name) names

-- the names that are kept once a further one is: each once, in the order in which they came
abbrev pub with_name : List ℕ → List (List ℕ) → List (List ℕ)
with_name name names = if is_among name names then names else names ++ name ∷ []

-- the names that are kept once a kind of unit was parsed: that of a label
abbrev pub names_with : List (List ℕ) → Kind → List (List ℕ)
names_with names (Label name) = with_name name.now names
names_with names (Bytes bytes) = names
names_with names (Duration duration) = names
names_with names (Human human) = names
names_with names (Range range) = names
names_with names (Scaled scaled) = names

-- whether a kind of unit is a label whose name isn't kept yet
abbrev pub is_new_label : List (List ℕ) → Kind → Bool
is_new_label names (Label name) = not (is_among name.now names)
is_new_label names (Bytes bytes) = false
is_new_label names (Duration duration) = false
is_new_label names (Human human) = false
is_new_label names (Range range) = false
is_new_label names (Scaled scaled) = false

-- whether what was parsed is a unit whose name isn't kept yet
abbrev pub is_new_name : List (List ℕ) → Option (Option Unit) → Bool
is_new_name names parsed =
    option_map_or
    (λ unit. option_map_or (λ it. is_new_label names it.kind) unit false)
    parsed
    false

-- the names that are kept once a unit was parsed, or none, or what is no unit
abbrev pub names_after : List (List ℕ) → Option (Option Unit) → List (List ℕ)
names_after names parsed =
    option_map_or
    (λ unit. option_map_or (λ it. names_with names it.kind) unit names)
    parsed
    names
