-- Progress that is logged in lines: the texts of the lines, and joined names.
use Rattle.std.specs.Prelude.{ℕ, ◌+◌, ◌-◌, ◌^◌, min, List, [], ◌∷◌, ◌++◌, codes, Option, Some, None, ◌≡◌, ◌⊎◌}
use Rattle.std.specs.Fmt.{decimal}
use Rattle.std.specs.Str.Pattern.{FindsText, SplitsAroundMatch}
use Rattle.prodash_base.specs.Displays.{amount}
use Rattle.prodash_base.specs.Units.{all_text_of}
use Rattle.prodash_base.specs.declared.unit.units.Unit.{Unit}
use Rattle.prodash_base.specs.declared.messages.MessageLevel.{MessageLevel}
use Rattle.prodash.specs.declared.tree.steps.Steps.{Steps}
use Rattle.prodash_base.specs.declared.messages.MessageLevel.TheVariants.{Info, Failure, Success}

-- A log. Of its counter it has the owner, and not the step, which other threads may change.
pub record LogState : Type 0 where
  -- the names of the logs above and its own, joined
  pub name : List ℕ
  pub id : List ℕ
  pub max : Option ℕ
  pub unit : Option Unit
  -- how many logs are above it
  pub level : ℕ
  -- the greatest level whose steps are logged, if there is one
  pub max_level : Option ℕ
  pub steps : Steps

-- a log of this name and identifier at a level, with this counter, which has no bound and no unit yet
abbrev pub new_log : List ℕ → List ℕ → ℕ → Option ℕ → Steps → LogState
new_log name id level max_level steps = record {
  name = name;
  id = id;
  max = None;
  unit = None;
  level = level;
  max_level = max_level;
  steps = steps;
}

-- a name, and one below it
abbrev pub joined : List ℕ → List ℕ → List ℕ
joined name below = name ++ codes "::" ++ below

-- the child of a log with a counter of its own: the names joined, and one level more
abbrev pub child_log : LogState → List ℕ → List ℕ → Steps → LogState
child_log log name id steps =
    new_log (joined log.name name) id (min (log.level + 1) (2 ^ 64 - 1)) log.max_level steps

-- ` → ` in UTF-8: U+2192 between spaces
abbrev pub arrow : List ℕ
arrow = 32 ∷ 226 ∷ 134 ∷ 146 ∷ 32 ∷ []

-- a name, an arrow, and what is said
abbrev pub arrowed : List ℕ → List ℕ → List ℕ
arrowed name said = name ++ arrow ++ said

-- a step with its bound and its unit: without a unit, the bound is between spaces
abbrev pub step_text : Option ℕ → Option Unit → ℕ → List ℕ
step_text max (Some unit) step = all_text_of unit (amount step max None)
step_text (Some max) None step = decimal step ++ codes " / " ++ decimal max
step_text None None step = decimal step

-- the line of a name at a step, with the bound and the unit of the step
abbrev pub step_line : List ℕ → Option ℕ → Option Unit → ℕ → List ℕ
step_line name max unit step = arrowed name (step_text max unit step)

-- the line of a log at a step, as `main::work → 3 / 10`
abbrev pub line_text : LogState → ℕ → List ℕ
line_text log step = step_line log.name log.max log.unit step

-- the line of a log at some step
abbrev pub IsLineOf : LogState → List ℕ → Type 0
IsLineOf log line = (step : ℕ) × (line ≡ line_text log step)

-- the sign of a severity, in UTF-8: `ℹ` (U+2139), `𐄂` (U+10102) or `✓` (U+2713)
abbrev pub sign_of : MessageLevel → List ℕ
sign_of Info = 226 ∷ 132 ∷ 185 ∷ []
sign_of Failure = 240 ∷ 144 ∷ 132 ∷ 130 ∷ []
sign_of Success = 226 ∷ 156 ∷ 147 ∷ []

-- the line of a message, as `✓main::work → done`
abbrev pub message_text : List ℕ → MessageLevel → List ℕ → List ℕ
message_text name level message = sign_of level ++ arrowed name message

-- a name has no `::`
abbrev pub IsOnePart : List ℕ → Type 0
IsOnePart name = FindsText (codes "::") name None

-- what is before the first `::` of a name, and what is after it
abbrev pub AreParted : List ℕ → List ℕ → List ℕ → Type 0
AreParted name first rest = SplitsAroundMatch (FindsText (codes "::")) name first rest

-- the first part of a name: what is before its first `::`, or all of it
abbrev pub IsFirstPart : List ℕ → List ℕ → Type 0
IsFirstPart name first = (IsOnePart name × (first ≡ name)) ⊎ ((rest : List ℕ) × AreParted name first rest)

-- the second part of a name, if it has one: the first part of what is after its first `::`
abbrev pub IsSecondPart : List ℕ → Option (List ℕ) → Type 0
IsSecondPart name None = IsOnePart name
IsSecondPart name (Some second) =
    (first : List ℕ) × (rest : List ℕ) × AreParted name first rest × IsFirstPart rest second

-- all of the log's name but its first part is replaced by the name
abbrev pub Renames : LogState → List ℕ → LogState → Type 0
Renames log name after =
    (first : List ℕ) × IsFirstPart log.name first
    × (after ≡ record log { name = joined first name })
