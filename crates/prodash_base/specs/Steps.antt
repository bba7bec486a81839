-- Rows with other steps.
use Rattle.std.specs.Prelude.{ℕ, List, ◌∷◌, Option, IfSome}
use Rattle.std.specs.Global.{Vec}
use Rattle.std.specs.Map.{keys_of}
use Rattle.std.specs.Option.{option_map}
use Rattle.prodash_base.specs.Adjacency.{IsAscending}
use Rattle.prodash_base.specs.declared.messages.Message.{Message}
use Rattle.prodash_base.specs.Rows.{PathRow, RowProgress}

-- a row with this step, if it has progress
abbrev pub with_step : ℕ → PathRow → PathRow
with_step step row = (
  row.0,
  record row.1 {
    progress = option_map (λ (p : RowProgress). record p { counter = step }) row.1.progress;
  },
)

-- rows with these steps, each row with that at its place; rows behind the last step keep theirs
abbrev pub with_steps : List ℕ → List PathRow → List PathRow
with_steps (step ∷ steps) (row ∷ rows) = with_step step row ∷ with_steps steps rows
with_steps _ rows = rows

-- what is said of rows, of these with the steps that were found, if there are any
abbrev pub OfSteps : (List PathRow → Type 0) → List PathRow → Option (Vec ℕ) → Type 0
OfSteps P rows found = IfSome found (λ steps. P (with_steps steps.items rows))

-- it holds of these rows with no steps
abbrev pub OfNoSteps : (List PathRow → Type 0) → List PathRow → Type 0
OfNoSteps P rows = (steps : List ℕ) → P (with_steps steps rows) → ⊥

-- what is said of a look, of one that found steps of these rows, if it did: of the rows with the steps, the messages, and how many were sent
abbrev pub OfSeenSteps : (List PathRow → List Message → ℕ → Type 0) → List PathRow → Option (Vec ℕ × List Message × ℕ) → Type 0
OfSeenSteps P rows found = IfSome found (λ seen. P (with_steps seen.0.items rows) seen.1 seen.2)

-- the rows are ascending then
abbrev pub StepsAscend : List PathRow → Option (Vec ℕ × List Message × ℕ) → Type 0
StepsAscend = OfSeenSteps (λ rows messages sent. IsAscending (keys_of rows))
