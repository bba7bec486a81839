-- The names that rows lack, if they are to become those of tasks.
use Rattle.std.specs.Prelude.{◌≡◌, ℕ, List, [], ◌∷◌, ◌++◌, nat_eq, if◌then◌else◌}
use Rattle.std.specs.Cmp.Lexicographic.{pointwise}
use Rattle.prodash_base.specs.Path.{Path}
use Rattle.prodash_base.specs.declared.progress.Row.{Row}
use Rattle.prodash_core.specs.Tables.{BoxedTask}

-- the name that a row lacks: a wanted one, unless the row has it
abbrev pub missing_name : List ℕ → List ℕ → List (List ℕ)
missing_name name wanted = if pointwise nat_eq name wanted then [] else wanted ∷ []

-- the names that rows lack of the tasks at their places, in the order of the tasks
abbrev pub missing_names : {C : Type 0} → List (Path × BoxedTask C) → List Row → List (List ℕ)
missing_names [] rows = []
missing_names (task ∷ tasks) [] = task.1.value.name ∷ missing_names tasks []
missing_names (task ∷ tasks) (row ∷ rows) =
    missing_name row.name task.1.value.name ++ missing_names tasks rows

-- Of names that begin with the one that a row lacks of a task, if it lacks it, the row gets that name,
-- and the rest stays.
abbrev pub TakesName : List ℕ → List ℕ → List (List ℕ) → List (List ℕ) → List ℕ → Type 0
TakesName name wanted names names' name' = (rest : List (List ℕ))
    → names ≡ missing_name name wanted ++ rest → (names' ≡ rest) × (name' ≡ wanted)
