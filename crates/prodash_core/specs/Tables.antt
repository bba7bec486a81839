-- The table of tasks: a map from paths to entries, and its rows.
use Rattle.std.specs.Prelude.{◌≡◌, ◌↔◌, ℕ, List, map, Option, Some, None, Contains, IsSome, Box}
use Rattle.std.specs.declared.alloc.Global.{Global}
use Rattle.std.specs.List.{AllZip}
use Rattle.std.specs.Map.{keys_of}
use Rattle.std.specs.Option.{option_map, option_and_then, option_map_or}
use Rattle.std.specs.FinMap as finite
use Rattle.prodash_base.specs.Path.{Path, path_cmp}
use Rattle.prodash_base.specs.Adjacency.{IsAscending}
use Rattle.prodash_base.specs.Rows.{Entry, Progress, Phase, RowProgress, PathRow, phase_of, unknown_id}
use Rattle.prodash_base.specs.Rows as phases
use Rattle.prodash_base.specs.Units.{measure_of}
use Rattle.prodash_base.specs.declared.unit.units.Unit.{Unit}
use Rattle.prodash_core.specs.declared.tree.table.Task.{Task}
use Rattle.prodash_core.specs.declared.tree.table.Counted.{Counted}

-- the progress of a task, whose counter a C names
abbrev pub TaskProgress : Type 0 → Type 0
TaskProgress C = Progress C Unit

-- the entry of a task, whose counter a C names
abbrev pub TaskEntry : Type 0 → Type 0
TaskEntry C = Entry C Unit

-- the entries of tasks by their paths
abbrev pub Table : Type 0 → Type 0
Table C = finite.FinMap path_cmp (TaskEntry C)

-- the entry of a task without progress
abbrev pub new_entry : {C : Type 0} → List ℕ → List ℕ → TaskEntry C
new_entry name id = record { name = name; id = id; progress = None }

-- the progress with which a task begins: none without a bound and a unit
abbrev pub new_progress : {C : Type 0} → C → Option ℕ → Option Unit → Option (TaskProgress C)
new_progress counter None None = None
new_progress counter max unit =
    Some (record { counter = counter; bound = max; unit = unit; phase = phases.Running })

-- the progress of a task, as definitions have it
abbrev pub counted_of : {C : Type 0} → Counted C → TaskProgress C
counted_of p =
    record { counter = p.counter; bound = p.done_at; unit = p.unit; phase = phase_of p.state }

-- the entry of a task
abbrev pub entry_of : {C : Type 0} → Task C → TaskEntry C
entry_of t = record { name = t.name; id = t.id; progress = option_map counted_of t.progress }

-- a task as the table keeps it, in a box
abbrev pub BoxedTask : Type 0 → Type 0
BoxedTask C = Box (Task C) Global

-- the entry of a boxed task
abbrev pub entry_in : {C : Type 0} → BoxedTask C → TaskEntry C
entry_in b = entry_of b.value

-- a path with the entry of its boxed task
abbrev pub pair_of : {C : Type 0} → Path × BoxedTask C → Path × TaskEntry C
pair_of e = (e.0, entry_in e.1)

-- the table with a change of the entry that was found at a path, if one was
abbrev pub change_found : {C : Type 0} → Table C → Path → (TaskEntry C → TaskEntry C) → Option (TaskEntry C)
    → Table C
change_found m path f None = m
change_found m path f (Some e) = finite.insert m path (f e)

-- the table with a change of the entry at a path, if it has the path
abbrev pub change_at : {C : Type 0} → Table C → Path → (TaskEntry C → TaskEntry C) → Table C
change_at m path f = change_found m path f (finite.get m path)

-- an entry with another name
abbrev pub with_name : {C : Type 0} → List ℕ → TaskEntry C → TaskEntry C
with_name name e = record e { name = name }

-- an entry with another progress
abbrev pub with_progress : {C : Type 0} → Option (TaskProgress C) → TaskEntry C → TaskEntry C
with_progress p e = record e { progress = p }

-- an entry whose progress, if it has one, has another bound
abbrev pub with_bound : {C : Type 0} → Option ℕ → TaskEntry C → TaskEntry C
with_bound {C} bound e =
    record e { progress = option_map {T = TaskProgress C} (λ p. record p { bound = bound }) e.progress }

-- an entry whose progress, if it has one, has another phase
abbrev pub with_phase : {C : Type 0} → Phase → TaskEntry C → TaskEntry C
with_phase {C} phase e =
    record e { progress = option_map {T = TaskProgress C} (λ p. record p { phase = phase }) e.progress }

-- the name of an entry, if there is an entry
abbrev pub name_at : {C : Type 0} → Option (TaskEntry C) → Option (List ℕ)
name_at = option_map (λ e. e.name)

-- the identifier of an entry; the unknown one if there is none
abbrev pub id_of : {C : Type 0} → Option (TaskEntry C) → List ℕ
id_of e = option_map_or (λ e. e.id) e unknown_id

-- the bound of an entry, if there is an entry, and it has progress and a bound
abbrev pub bound_of : {C : Type 0} → Option (TaskEntry C) → Option ℕ
bound_of e = option_and_then (λ p. p.bound) (option_and_then (λ e. e.progress) e)

-- the unit of an entry, if there is an entry, and it has progress and a unit
abbrev pub unit_of : {C : Type 0} → Option (TaskEntry C) → Option Unit
unit_of e = option_and_then (λ p. p.unit) (option_and_then (λ e. e.progress) e)

-- a progress with this number in the counter's place, and with what its unit says
abbrev pub progress_at : {C : Type 0} → ℕ → TaskProgress C → RowProgress
progress_at number p =
    record { counter = number; bound = p.bound; unit = option_map measure_of p.unit; phase = p.phase }

-- The row's progress is that of the entry, with a number in the counter's place that the counter
-- may show.
abbrev pub ProgressShows : {C : Type 0} → (C → ℕ → Type 0) → Option (TaskProgress C)
    → Option RowProgress → Type 0
ProgressShows shows None shown = shown ≡ None
ProgressShows shows (Some p) shown =
    (number : ℕ) × shows p.counter number × (shown ≡ Some (progress_at number p))

-- a row shows a path and its entry
pub record RowShows {C : Type 0} (shows : C → ℕ → Type 0) (e : Path × TaskEntry C) (row : PathRow)
    : Type 0 where
  pub path : row.0 ≡ e.0
  pub name : row.1.name ≡ e.1.name
  pub id : row.1.id ≡ e.1.id
  pub progress : ProgressShows shows e.1.progress row.1.progress

-- the rows show the entries, in the order of their paths
abbrev pub RowsShow : {C : Type 0} → (C → ℕ → Type 0) → Table C → List PathRow → Type 0
RowsShow shows m rows = AllZip (RowShows shows) (finite.entries m) rows

-- the rows are strictly ascending by path, so that no path has two, and a path has a row if and
-- only if it has an entry
pub record ListsEachOnce {C : Type 0} (m : Table C) (rows : List PathRow) : Type 0 where
  pub ascending : IsAscending (keys_of rows)
  pub each : (path : Path) → IsSome (finite.get m path) ↔ Contains (keys_of rows) path

-- a pair with each counter's number in its place
abbrev pub frozen : {C : Type 0} → (C → ℕ) → Path × TaskEntry C → PathRow
frozen number e =
    let shown = option_map (λ p. progress_at (number p.counter) p) e.1.progress in
    (e.0, record { name = e.1.name; id = e.1.id; progress = shown })

-- the rows: the pairs in the order of paths, each counter's number in its place
abbrev pub rows_at : {C : Type 0} → (C → ℕ) → Table C → List PathRow
rows_at number m = map (frozen number) (finite.entries m)
