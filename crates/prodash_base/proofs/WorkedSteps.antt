-- Worked rows with other steps.
use Rattle.std.proofs.Common.{◌≡◌, ℕ, List, [], ◌∷◌, Option, Some, None, refl}
use Rattle.std.specs.Prelude.{codes}
use Rattle.std.specs.Option.{option_map}
use Rattle.prodash_base.specs.Rows.{PathRow, Running, unknown_id}
use Rattle.prodash_base.specs.Steps.{with_steps}

-- the row of a task: its number and its step, if it has progress
abbrev row : ℕ → Option ℕ → PathRow
row number step = (
  number ∷ [],
  record {
    name = codes "task";
    id = unknown_id;
    progress = option_map (λ n. record { counter = n; bound = Some 10; unit = None; phase = Running }) step;
  },
)

-- three rows, of which the second has no progress
abbrev rows : Option ℕ → Option ℕ → List PathRow
rows first third = row 0 first ∷ row 1 None ∷ row 2 third ∷ []

-- a row without progress takes up a step
pub as_many : with_steps (4 ∷ 5 ∷ 6 ∷ []) (rows (Some 1) (Some 3)) ≡ rows (Some 4) (Some 6)
as_many = refl

-- one step too many
pub too_many : with_steps (4 ∷ 5 ∷ 6 ∷ 7 ∷ []) (rows (Some 1) (Some 3)) ≡ rows (Some 4) (Some 6)
too_many = refl

-- one step too few
pub too_few : with_steps (4 ∷ 5 ∷ []) (rows (Some 1) (Some 3)) ≡ rows (Some 4) (Some 3)
too_few = refl
