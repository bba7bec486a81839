-- Timers: since when each task goes on, what it has done since, and what a row says of that.
use Rattle.std.specs.Prelude.{◌≡◌, ℕ, ◌+◌, ◌-◌, ◌*◌, ◌^◌, min, nat_eq, nat_lt, nat_le, Bool, true, false, not, ◌||◌, List, [], ◌∷◌, length, take, replicate, Option, Some, None, if◌then◌else◌, unwrap_or}
use Rattle.std.specs.Bool.{then_some}
use Rattle.std.specs.List.{AllByRecursion}
use Rattle.std.specs.Option.{option_eq}
use Rattle.std.specs.FinMap.{find, put}
use Rattle.prodash_base.specs.Path.{Path, path_cmp}
use Rattle.prodash_base.specs.Units.{Measure, same_measure}
use Rattle.prodash_base.specs.Rows.{Phase, Running, RowProgress, PathRow}
use Rattle.prodash_base.specs.Moments.{seconds_of}
use Rattle.prodash_base.specs.Samples.{one_second}
use Rattle.prodash_base.specs.Times.{is_past, finished_at, remaining_seconds}
use Rattle.prodash_base.specs.Trackers.{elapsed_since}
use Rattle.prodash_base.specs.declared.timing.marks.Mark.{Mark}
use Rattle.prodash_base.specs.declared.timing.task_time.TaskTime.{TaskTime}

-- how many marks are kept of a task
abbrev pub kept_marks : ℕ
kept_marks = 16

-- the marks of a task that begins: its first one stands for those that are missing, too
abbrev pub first_marks : Mark → List Mark
first_marks mark = replicate kept_marks mark

-- the marks, the latest first, with one more: a step more than a second after the latest mark
abbrev pub with_mark : Mark → List Mark → List Mark
with_mark mark [] = []
with_mark mark (latest ∷ older) =
    if nat_lt one_second (mark.at - latest.at) then mark ∷ take (length older) (latest ∷ older)
    else latest ∷ older

-- the earliest mark that is kept; this one if there is none
abbrev pub earliest_mark : Mark → List Mark → Mark
earliest_mark mark [] = mark
earliest_mark mark (latest ∷ older) = earliest_mark latest older

-- what is known of a task: when it began, its step and its unit, when the step changed last, when
-- the task was first seen at its bound if it is there, and the latest marks
pub record Timing : Type 0 where
  pub began : ℕ
  pub step : ℕ
  pub unit : Option Measure
  pub stepped : ℕ
  pub finished : Option ℕ
  pub marks : List Mark

-- a step at a moment
abbrev pub mark_at : ℕ → ℕ → Mark
mark_at now step = record { at = now; step = step }

-- has a progress reached its bound?
abbrev pub is_finished : RowProgress → Bool
is_finished p = is_past p.counter p.bound

-- a task that begins now
abbrev pub first_timing : ℕ → RowProgress → Timing
first_timing now p = record {
  began = now;
  step = p.counter;
  unit = p.unit;
  stepped = now;
  finished = finished_at (is_finished p) None now;
  marks = first_marks (mark_at now p.counter);
}

-- a task that goes on
abbrev pub later_timing : Timing → ℕ → RowProgress → Timing
later_timing t now p = record t {
  step = p.counter;
  stepped = if nat_eq p.counter t.step then t.stepped else now;
  finished = finished_at (is_finished p) t.finished now;
  marks = with_mark (mark_at now p.counter) t.marks;
}

-- does a task begin anew? in another unit, or at a step below the one that it had; but not with
-- another bound, since a bound may grow while work is found
abbrev pub begins_anew : Timing → RowProgress → Bool
begins_anew t p = not (option_eq same_measure t.unit p.unit) || nat_lt p.counter t.step

-- a task after a tick that has seen its progress
abbrev pub next_timing : Option Timing → ℕ → RowProgress → Timing
next_timing None now p = first_timing now p
next_timing (Some t) now p = if begins_anew t p then first_timing now p else later_timing t now p

-- what is known of tasks, in the order of their paths
abbrev pub Timings : Type 0
Timings = List (Path × Timing)

-- with what is known of a task after a tick, if its row has progress
abbrev pub with_timing : Timings → ℕ → Timings → Path → Option RowProgress → Timings
with_timing before now timings path None = timings
with_timing before now timings path (Some p) =
    put path_cmp path (next_timing (find path_cmp path before) now p) timings

-- with what is known of the tasks of some rows
abbrev pub with_timings : Timings → ℕ → Timings → List PathRow → Timings
with_timings before now timings [] = timings
with_timings before now timings (row ∷ rows) =
    with_timings before now (with_timing before now timings row.0 row.1.progress) rows

-- the moment of the latest tick, the time of the timer then, and what is known of tasks in that time
pub record TimerState : Type 0 where
  pub updated_at : Option ℕ
  pub time : ℕ
  pub timings : Timings

-- a timer before its first tick
abbrev pub new_timer : TimerState
new_timer = record { updated_at = None; time = 0; timings = [] }

-- the time of a timer at a moment; a clock that goes back adds nothing to it
abbrev pub time_at : TimerState → ℕ → ℕ
time_at t at = min (t.time + unwrap_or (elapsed_since t.updated_at at) 0) (2 ^ 64 - 1)

-- the timer after a tick: of a task that the tick hasn't seen nothing is known any more
abbrev pub timer_after : TimerState → ℕ → List PathRow → TimerState
timer_after t at rows = let now = time_at t at in record {
  updated_at = Some at;
  time = now;
  timings = with_timings t.timings now [] rows;
}

-- the nanoseconds without a step from which on a task has stalled
abbrev pub stall_limit : ℕ
stall_limit = 10 * one_second

-- the seconds for which there was no step, if there was none for long
abbrev pub stalled_for : ℕ → Option ℕ
stalled_for ns = then_some (nat_le stall_limit ns) (seconds_of ns)

-- the seconds that the rest takes: as the steps since the earliest mark took, up to now
abbrev pub remaining_of : Timing → ℕ → Option ℕ → Option ℕ
remaining_of t now None = None
remaining_of t now (Some bound) =
    let first = earliest_mark (mark_at t.began t.step) t.marks in
    remaining_seconds (bound - t.step) (t.step - first.step) (now - first.at)

-- the time of a task that took this many nanoseconds
abbrev pub time_taken : ℕ → TaskTime
time_taken ns =
    record { has_finished = true; elapsed = seconds_of ns; remaining = None; stalled = None }

-- the time of a task that has run for this many nanoseconds
abbrev pub time_elapsed : ℕ → TaskTime
time_elapsed ns =
    record { has_finished = false; elapsed = seconds_of ns; remaining = None; stalled = None }

-- the time of a task that hasn't finished: if it is running, what remains, and whether it has stalled
abbrev pub time_in : Phase → Timing → ℕ → Option ℕ → TaskTime
time_in Running t now bound = record (time_elapsed (now - t.began)) {
  remaining = remaining_of t now bound;
  stalled = stalled_for (now - t.stepped);
}
time_in _ t now bound = time_elapsed (now - t.began)

-- the time of a task: how long it took if it has finished, or else has run
abbrev pub time_by : Option ℕ → Timing → ℕ → RowProgress → TaskTime
time_by (Some finished) t now p = time_taken (finished - t.began)
time_by None t now p = time_in p.phase t now p.bound

-- the time of a task with this progress now, if something is known of it
abbrev pub time_with : Option Timing → ℕ → Option RowProgress → Option TaskTime
time_with (Some t) now (Some p) = Some (time_by t.finished t now p)
time_with _ now _ = None

-- what a row says of its time at a moment; nothing without progress
abbrev pub row_time : TimerState → ℕ → PathRow → Option TaskTime
row_time t at row = time_with (find path_cmp row.0 t.timings) (time_at t at) row.1.progress

-- does the time of a row go on? of one with progress, until it has finished
abbrev pub goes_on : Option RowProgress → Bool
goes_on None = false
goes_on (Some p) = not (is_finished p)

-- of each task sixteen marks are held
abbrev pub HoldsMarks : Timings → Type 0
HoldsMarks timings = AllByRecursion (λ (entry : Path × Timing). length entry.1.marks ≡ kept_marks) timings
