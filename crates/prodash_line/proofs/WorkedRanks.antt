-- Worked rows of a window that hasn't room for all, by computation alone.
use Rattle.std.proofs.Common.{◌≡◌, ℕ, Bool, true, false, List, [], ◌∷◌, map, Some, None, refl}
use Rattle.prodash_base.specs.Path.{Path}
use Rattle.prodash_base.specs.Rows.{Phase, Blocked, Halted, Running, PathRow, unknown_id}
use Rattle.prodash_line.specs.declared.render.line.draw.input.Options.{Options}
use Rattle.prodash_line.specs.declared.render.line.draw.rank.Rank.TheVariants as ranks
use Rattle.prodash_line.specs.ProgressRows.{DrawnRow, preferred, fitting}
use Rattle.prodash_line.specs.Renderer.{default_options}
use Rattle.prodash_line.specs.RowRanks.{ranks_of, places}

-- a task at a step of 3, in this phase
abbrev at : Path → ℕ → Phase → PathRow
at path step phase = (path, record { name = []; id = unknown_id; progress = Some (record { counter = step; bound = Some 3; unit = None; phase = phase }) })

abbrev waits : Path → PathRow
waits path = at path 0 Running

abbrev runs : Path → PathRow
runs path = at path 1 Running

abbrev has_finished : Path → PathRow
has_finished path = at path 3 Running

-- a row without progress
abbrev group : Path → PathRow
group path = (path, record { name = []; id = unknown_id; progress = None })

-- the paths of the rows that are drawn if n are
abbrev drawn : ℕ → List PathRow → List Path
drawn n rows = map (λ (row : DrawnRow). row.0.0) (preferred n (map (λ row. (row, None)) rows))

-- a group of a finished task, a waiting and a running one, a waiting group, and a running task
abbrev some : List PathRow
some =
    group (0 ∷ []) ∷ has_finished (0 ∷ 0 ∷ []) ∷ waits (0 ∷ 1 ∷ []) ∷ runs (0 ∷ 2 ∷ [])
    ∷ group (1 ∷ []) ∷ has_finished (1 ∷ 0 ∷ []) ∷ runs (2 ∷ []) ∷ []

pub ranks_of_some : ranks_of some
    ≡ ranks.AboveRunning ∷ ranks.Finished ∷ ranks.Waiting ∷ ranks.Running ∷ ranks.Waiting ∷ ranks.Finished ∷ ranks.Running ∷ []
ranks_of_some = refl

-- the running ones come first, the group of one after both, then those that wait, and then the finished ones
pub places_of_some : places some ≡ 2 ∷ 5 ∷ 3 ∷ 0 ∷ 4 ∷ 6 ∷ 1 ∷ []
places_of_some = refl

pub one_of_some : drawn 1 some ≡ (0 ∷ 2 ∷ []) ∷ []
one_of_some = refl

pub two_of_some : drawn 2 some ≡ (0 ∷ 2 ∷ []) ∷ (2 ∷ []) ∷ []
two_of_some = refl

-- with the group, in the order of the tree
pub three_of_some : drawn 3 some ≡ (0 ∷ []) ∷ (0 ∷ 2 ∷ []) ∷ (2 ∷ []) ∷ []
three_of_some = refl

pub four_of_some : drawn 4 some ≡ (0 ∷ []) ∷ (0 ∷ 1 ∷ []) ∷ (0 ∷ 2 ∷ []) ∷ (2 ∷ []) ∷ []
four_of_some = refl

-- where all fit, all are drawn
pub all_of_some : drawn 7 some ≡ map (λ row. row.0) some
all_of_some = refl

-- halted and blocked tasks wait, wherever they are
pub stopped : ranks_of (at (0 ∷ []) 1 (Halted [] None) ∷ at (1 ∷ []) 1 (Blocked [] None) ∷ at (2 ∷ []) 3 (Blocked [] None) ∷ [])
    ≡ ranks.Waiting ∷ ranks.Waiting ∷ ranks.Finished ∷ []
stopped = refl

-- a finished task is above one that waits, and so is each above it
pub above : ranks_of (has_finished (0 ∷ []) ∷ has_finished (0 ∷ 0 ∷ []) ∷ waits (0 ∷ 0 ∷ 0 ∷ []) ∷ has_finished (1 ∷ []) ∷ [])
    ≡ ranks.AboveWaiting ∷ ranks.AboveWaiting ∷ ranks.Waiting ∷ ranks.Finished ∷ []
above = refl

-- what is below a row ends at the next one that is no deeper
pub beside : ranks_of (has_finished (0 ∷ []) ∷ has_finished (1 ∷ []) ∷ runs (1 ∷ 0 ∷ []) ∷ [])
    ≡ ranks.Finished ∷ ranks.AboveRunning ∷ ranks.Running ∷ []
beside = refl

-- in a window of four rows two of four rows are drawn: the first ones, or those of running tasks
abbrev window : Bool → Options
window prefers = record default_options { terminal_dimensions = (40, 4); defensive = true; prefer_running = prefers }

abbrev four : List DrawnRow
four = (has_finished (0 ∷ []), None) ∷ (waits (1 ∷ []), None) ∷ (runs (2 ∷ []), None) ∷ (runs (3 ∷ []), None) ∷ []

pub first_rows : map (λ (row : DrawnRow). row.0.0) (fitting (window false) four) ≡ (0 ∷ []) ∷ (1 ∷ []) ∷ []
first_rows = refl

pub running_rows : map (λ (row : DrawnRow). row.0.0) (fitting (window true) four) ≡ (2 ∷ []) ∷ (3 ∷ []) ∷ []
running_rows = refl
