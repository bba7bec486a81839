-- The rows of tasks, and their values.
use Rattle.std.specs.Prelude.{◌≡◌, ◌-◌, ℕ, List, Option, length, map, slice_get}
use Rattle.std.specs.Global.{Vec}
use Rattle.std.specs.List.{AllZip}
use Rattle.std.specs.Option.{option_map}
use Rattle.prodash_base.specs.Path.{Path}
use Rattle.prodash_base.specs.Rows.{phase_of, progress_of, row_of, rows_of}
use Rattle.prodash_base.specs.Steps.{OfNoSteps, OfSteps, with_step}
use Rattle.prodash_base.specs.Units.{measure_of}
use Rattle.prodash_base.specs.declared.progress.Row.{Row}
use Rattle.prodash_base.specs.declared.progress.Value.{Value}
use Rattle.prodash_core.specs.Tables.{BoxedTask, counted_of, entry_of, pair_of, ProgressShows, RowShows}
use Rattle.prodash_core.specs.declared.tree.table.Task.{Task}
use Rattle.prodash_core.specs.declared.tree.table.Counted.{Counted}

-- the value that a row shows is that of the task's progress
abbrev pub ValueShows : {C : Type 0} → (C → ℕ → Type 0) → Option (Counted C) → Option Value → Type 0
ValueShows shows progress value =
    ProgressShows shows (option_map counted_of progress) (option_map progress_of value)

-- a value is that of a progress, apart from the step
pub record IsSameButStep {C : Type 0} (counted : Counted C) (value : Value) : Type 0 where
  pub bound : counted.done_at ≡ value.done_at
  pub unit : option_map measure_of counted.unit ≡ option_map measure_of value.unit
  pub phase : phase_of counted.state ≡ phase_of value.state

-- a row shows a task and its path
abbrev pub RowShowsTask : {C : Type 0} → (C → ℕ → Type 0) → Path → Task C → Row → Type 0
RowShowsTask shows path task row = RowShows shows (path, entry_of task) (row_of row)

-- the rows show these tasks, in their order
abbrev pub RowsShowTasks : {C : Type 0} → (C → ℕ → Type 0) → List (Path × BoxedTask C) → List Row
    → Type 0
RowsShowTasks shows tasks rows = AllZip (RowShows shows) (map pair_of tasks) (rows_of rows)

-- a row with this step shows a task and its path
abbrev pub StepShows : {C : Type 0} → (C → ℕ → Type 0) → Path → Task C → Row → ℕ → Type 0
StepShows shows path task row step = RowShows shows (path, entry_of task) (with_step step (row_of row))

-- these rows show these tasks with the steps that were found, if there are any
abbrev pub StepsShowTasks : {C : Type 0} → (C → ℕ → Type 0) → List (Path × BoxedTask C) → List Row
    → Option (Vec ℕ) → Type 0
StepsShowTasks shows tasks rows = OfSteps (AllZip (RowShows shows) (map pair_of tasks)) (rows_of rows)

-- they do with no steps
abbrev pub NoStepsShowTasks : {C : Type 0} → (C → ℕ → Type 0) → List (Path × BoxedTask C) → List Row
    → Type 0
NoStepsShowTasks shows tasks rows = OfNoSteps (AllZip (RowShows shows) (map pair_of tasks)) (rows_of rows)

-- the last of these paths, if there are any
abbrev pub last_path : List Path → Option Path
last_path paths = slice_get paths (length paths - 1)
