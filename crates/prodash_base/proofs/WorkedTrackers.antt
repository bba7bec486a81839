-- Trackers of worked frames, by computation alone.
use Rattle.std.proofs.Common.{◌≡◌, ℕ, ◌+◌, List, [], ◌∷◌, Option, Some, None}
use Rattle.std.specs.Prelude.{codes}
use Rattle.std.specs.FinMap.{get-insert, get-empty}
use Rattle.std.proofs.lemmas.Cmp.{nat_list_cmp_total}
use Rattle.prodash_base.proofs.PathMaps.{get-retain_at}
use Rattle.prodash_base.specs.Path.{path_cmp}
use Rattle.prodash_base.specs.Rows.{PathRow, Running, unknown_id}
use Rattle.prodash_base.specs.Trackers.{Tracker, new_tracker, update_elapsed, in_one_second, frame_throughputs, after_frame}
use Rattle.prodash_base.specs.declared.throughput.sample.Observation.{Observation}
use Rattle.prodash_base.specs.declared.unit.display.Throughput.{Throughput}

-- a row at a path with one number, which shows this step
abbrev row : ℕ → ℕ → PathRow
row n step = (
  n ∷ [],
  record {
    name = codes "task";
    id = unknown_id;
    progress = Some (record { counter = step; bound = None; unit = None; phase = Running });
  },
)

-- what frames show, each at the moment after it, of rows that are all drawn
abbrev shown : Tracker → List (ℕ × List PathRow) → List (List (Option Throughput))
shown t [] = []
shown t (frame ∷ frames) = frame_throughputs t frame.0 frame.1 ∷ shown (after_frame t frame.0 frame.1 frame.1) frames

-- what frames show of one row with these steps, 400 milliseconds apart
abbrev slow : Tracker → ℕ → List ℕ → List (List (Option Throughput))
slow t at [] = []
slow t at (step ∷ steps) =
    frame_throughputs t at (row 0 step ∷ []) ∷ slow (after_frame t at (row 0 step ∷ []) (row 0 step ∷ [])) (at + 400000000) steps

-- a change in one second
abbrev rate : ℕ → Option Throughput
rate change = Some (in_one_second change)

-- nothing before the second mark, which has three samples, 40 in 1.2 seconds
pub second_mark : slow (update_elapsed new_tracker 0) 400000000 (10 ∷ 20 ∷ 30 ∷ 50 ∷ []) ≡ (None ∷ []) ∷ (None ∷ []) ∷ (None ∷ []) ∷ (rate 33 ∷ []) ∷ []
second_mark = simp (get-insert {X = List Observation} nat_list_cmp_total, get-empty {X = List Observation} path_cmp, get-retain_at {Y = List Observation})

-- nothing is recorded at the first moment, nor after the clock went back
pub clock_back : shown new_tracker ((5, row 0 1 ∷ []) ∷ (2, row 0 2 ∷ []) ∷ (4, row 0 3 ∷ []) ∷ (1000000005, row 0 9 ∷ []) ∷ [])
    ≡ (None ∷ []) ∷ (None ∷ []) ∷ (None ∷ []) ∷ (rate 5 ∷ []) ∷ []
clock_back = simp (get-insert {X = List Observation} nat_list_cmp_total, get-empty {X = List Observation} path_cmp, get-retain_at {Y = List Observation})

-- a row that a frame lacks is forgotten, the others are not
pub forgotten : shown (update_elapsed new_tracker 0) ((1, row 0 1 ∷ row 1 1 ∷ []) ∷ (2, row 1 1 ∷ []) ∷ (2000000002, row 0 5 ∷ row 1 5 ∷ []) ∷ [])
    ≡ (None ∷ None ∷ []) ∷ (None ∷ []) ∷ (None ∷ rate 2 ∷ []) ∷ []
forgotten = simp (get-insert {X = List Observation} nat_list_cmp_total, get-empty {X = List Observation} path_cmp, get-retain_at {Y = List Observation})
