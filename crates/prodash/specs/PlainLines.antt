-- Plain lines: what is said of tasks where rows can't be drawn, as in a log.
use Rattle.std.specs.Prelude.{◌≡◌, ℕ, String, string_bytes, Result, IfOk, ◌-◌, nat_eq, nat_le, Bool, true, false, not, ◌&&◌, List, [], ◌++◌, codes, length, take, Option, Some, None, if◌then◌else◌, ◌||◌, unwrap_or}
use Rattle.std.specs.Fmt.{decimal}
use Rattle.std.specs.FinMap as finite
use Rattle.std.specs.Option.{option_map, option_eq}
use Rattle.std.specs.Str.{encode_utf8_all}
use Rattle.prodash_base.specs.Path.{Path, path_cmp}
use Rattle.prodash_base.specs.Rows.{RowProgress, PathRow}
use Rattle.prodash_base.specs.Units.{Measure}
use Rattle.prodash_base.specs.declared.refusal.Refusal.{Refusal}
use Rattle.prodash_base.specs.Kinds.{quantity_shown}
use Rattle.prodash_base.specs.Displays.{amount, all_text}
use Rattle.prodash_base.specs.Quantities.{percentage_of}
use Rattle.prodash_line.specs.DrawnLines.{drawn_chars}
use Rattle.prodash_line.specs.ProgressRows.{fraction_of}
use Rattle.prodash_base.specs.Times.{duration_text, stopwatch_text, remaining_seconds, is_past, left_text, finished_at}
use Rattle.prodash.specs.declared.render.plain.told.Reached.{Reached}
use Rattle.prodash.specs.declared.render.plain.told.Told.{Told}
use Rattle.prodash.specs.declared.render.plain.Outcome.{Outcome}

-- what was said of each task that is known
abbrev pub Tellings : Type 0
Tellings = finite.FinMap path_cmp Told

-- when a log began, and what it has said of each task
pub record PlainLog : Type 0 where
  pub began : ℕ
  pub tasks : Tellings

-- a log that has said nothing
abbrev pub new_log : ℕ → PlainLog
new_log now = record { began = now; tasks = finite.empty }

-- the label of a name below another task, and what was said of the task itself: the label of that other one, a slash, and the name; once that
-- isn't known any more, the label that the task had
abbrev pub below : Option Told → Option Told → List ℕ → List ℕ
below (Some parent) told name = parent.label ++ (codes "/" ++ name)
below None (Some told) name = told.label
below None None name = name

-- the label of a row: the names of its ancestors and its own, as `build/app`
abbrev pub label_of : Tellings → PathRow → List ℕ
label_of tasks row =
    if nat_le (length row.0) 1 then row.1.name
    else below (finite.get tasks (take (length row.0 - 1) row.0)) (finite.get tasks row.0) row.1.name

-- how far a progress is
abbrev pub reached_of : RowProgress → Reached
reached_of p = record { step = p.counter; done_at = p.bound }

-- has a task reached its bound?
abbrev pub is_done : Option Reached → Bool
is_done None = false
is_done (Some r) = is_past r.step r.done_at

-- the test of equal steps and bounds
abbrev pub is_same : Reached → Reached → Bool
is_same r s = nat_eq r.step s.step && option_eq nat_eq r.done_at s.done_at

-- is that what was said last?
abbrev pub was_said : Option Reached → Reached → Bool
was_said None r = false
was_said (Some said) r = is_same said r

-- the step with its bound and its unit, as `3/4 files`
abbrev pub values_in : Option Measure → RowProgress → List ℕ
values_in None p = fraction_of p.counter p.bound
values_in (Some unit) p = all_text (quantity_shown unit.quantity) None (amount p.counter p.bound None)

-- a space and the percentage of the bound, rounded down, as ` 75%`; nothing without a bound above 0
abbrev pub percentage_text : ℕ → Option ℕ → List ℕ
percentage_text step None = []
percentage_text step (Some bound) =
    if nat_eq bound 0 then [] else codes " " ++ decimal (percentage_of step bound) ++ codes "%"

-- how far a progress is, as ` 3/4 75%`
abbrev pub progress_text : RowProgress → List ℕ
progress_text p = codes " " ++ values_in p.unit p ++ percentage_text p.counter p.bound

-- the seconds that the rest of a progress takes, by what was done since the task was first seen
abbrev pub remaining_of : Told → ℕ → ℕ → Option ℕ → Option ℕ
remaining_of told now step None = None
remaining_of told now step (Some bound) = remaining_seconds (bound - step) (step - told.first) (now - told.since)

-- what is said of a task that has gone on: ` 3/4 75%, 12s left`
abbrev pub changed_text : Told → ℕ → RowProgress → List ℕ
changed_text told now p = progress_text p ++ left_text (remaining_of told now p.counter p.bound)

-- the progress before an end: ` 3/4 75%,`
abbrev pub last_progress : Option RowProgress → List ℕ
last_progress None = []
last_progress (Some p) = progress_text p ++ codes ","

-- what has become of a task: it is done, or was dropped short of its bound, or had none
abbrev pub outcome_text : Bool → Option ℕ → List ℕ
outcome_text true bound = codes " done in "
outcome_text false None = codes " ended after "
outcome_text false (Some bound) = codes " stopped after "

-- the bound of a progress, if there is one
abbrev pub bound_of : Option RowProgress → Option ℕ
bound_of None = None
bound_of (Some p) = p.bound

-- the step of a progress; 0 without progress
abbrev pub step_of : Option RowProgress → ℕ
step_of None = 0
step_of (Some p) = p.counter

-- has a task with this progress reached its bound?
abbrev pub has_finished : Option RowProgress → Bool
has_finished p = is_done (option_map reached_of p)

-- what is said of a task that has finished or was dropped: ` 4/4 100%, done in 3.2s`
abbrev pub ended_text : Told → ℕ → Option RowProgress → List ℕ
ended_text told now p = last_progress p ++ (outcome_text (has_finished p) (bound_of p) ++ duration_text (now - told.since))

-- what is said of a progress that is seen again: that it has finished, or how far it is, each once
abbrev pub said_again : Told → ℕ → RowProgress → Option (List ℕ)
said_again told now p =
    if is_done (Some (reached_of p)) then (if is_done told.said then None else Some (ended_text told now (Some p)))
    else if was_said told.said (reached_of p) then None
    else Some (changed_text told now p)

-- what is said of a task that is seen, if anything: that it began, and from then on what has changed
abbrev pub said_of : Option Told → ℕ → Option RowProgress → Option (List ℕ)
said_of None now p = Some (codes " started")
said_of (Some told) now None = None
said_of (Some told) now (Some p) = said_again told now p

-- what is known of a task once it was seen: of a new one no progress counts as said
abbrev pub told_after : Option Told → ℕ → List ℕ → Option RowProgress → Told
told_after None now label p = record {
  label = label;
  since = now;
  first = step_of p;
  said = None;
  finished = finished_at (has_finished p) None now;
}
told_after (Some told) now label p = record told {
  label = label;
  said = option_map reached_of p;
  finished = finished_at (has_finished p) told.finished now;
}

-- what is said of a task that is dropped: how it ended, unless that it has finished was said
abbrev pub said_at_end : Option Told → ℕ → Option RowProgress → Option (List ℕ)
said_at_end None now p = None
said_at_end (Some told) now p = if is_done told.said && has_finished p then None else Some (ended_text told now p)

-- a call that is not refused returns this text, or none where there is nothing to say
abbrev pub Says : {Z : Type 0} → Result (Option (String Z)) Refusal → Option (List ℕ) → Type 0
Says result text = IfOk result (λ given. option_map string_bytes given ≡ text)

-- a line: the time since the log began, a space, and a text without unsafe characters
abbrev pub line_of : PlainLog → ℕ → List ℕ → List ℕ
line_of log now text = stopwatch_text (now - log.began) ++ (codes " " ++ encode_utf8_all (drawn_chars true text))

-- the line of a label about which this is said, if anything is
abbrev pub labelled_line : PlainLog → ℕ → List ℕ → Option (List ℕ) → Option (List ℕ)
labelled_line log now label said = option_map (λ text. line_of log now (label ++ text)) said

-- the line of a row that is seen
abbrev pub observed_line : PlainLog → ℕ → PathRow → Option (List ℕ)
observed_line log now row = labelled_line log now (label_of log.tasks row) (said_of (finite.get log.tasks row.0) now row.1.progress)

-- the log once a row was seen
abbrev pub observed : PlainLog → ℕ → PathRow → PlainLog
observed log now row = record log {
  tasks = finite.insert log.tasks row.0
      (told_after (finite.get log.tasks row.0) now (label_of log.tasks row) row.1.progress);
}

-- the log with the label of a row for its task, of which this was said; as it is where nothing was
abbrev pub relabelled : Option Told → PlainLog → PathRow → PlainLog
relabelled None log row = log
relabelled (Some told) log row = record log {
  tasks = finite.insert log.tasks row.0 (record told { label = label_of log.tasks row });
}

-- the log once it has taken the names of a task from its row
abbrev pub renamed : PlainLog → PathRow → PlainLog
renamed log row = relabelled (finite.get log.tasks row.0) log row

-- the line of a row that is dropped
abbrev pub dropped_line : PlainLog → ℕ → PathRow → Option (List ℕ)
dropped_line log now row = labelled_line log now (label_of log.tasks row) (said_at_end (finite.get log.tasks row.0) now row.1.progress)

-- the log once a row was dropped
abbrev pub dropped : PlainLog → PathRow → PlainLog
dropped log row = record log { tasks = finite.remove log.tasks row.0 }

-- is there no bound?
abbrev pub is_unbounded : Option ℕ → Bool
is_unbounded None = true
is_unbounded (Some bound) = false

-- has a task come to its end? it has at its bound, and one without a bound has if it was dropped
abbrev pub has_come_out : Bool → Option RowProgress → Bool
has_come_out is_dropped p = has_finished p || (is_dropped && is_unbounded (bound_of p))

-- the values of a progress, as `4/4 files`; nothing without progress
abbrev pub values_of : Option RowProgress → List ℕ
values_of None = []
values_of (Some p) = values_in p.unit p

-- how a task has come out: `4/4 files in 3.2s`, or `stopped at 4/10 after 12s`
abbrev pub outcome_of : Bool → Option RowProgress → ℕ → List ℕ
outcome_of true None ns = codes "in " ++ duration_text ns
outcome_of true (Some p) ns = values_in p.unit p ++ (codes " in " ++ duration_text ns)
outcome_of false None ns = codes "stopped after " ++ duration_text ns
outcome_of false (Some p) ns = codes "stopped at " ++ (values_in p.unit p ++ (codes " after " ++ duration_text ns))

-- the outcome of a task of which this was said: its time ends when it reached its bound, or now
abbrev pub known_outcome : Told → ℕ → Bool → List ℕ → Option RowProgress → Outcome
known_outcome told now is_dropped label p = record {
  label = label;
  has_finished = has_come_out is_dropped p;
  values = values_of p;
  text = outcome_of (has_come_out is_dropped p) p
      (unwrap_or (finished_at (has_finished p) told.finished now) now - told.since);
}

-- the outcome of a row, if it is known
abbrev pub outcome_at : PlainLog → ℕ → Bool → PathRow → Option Outcome
outcome_at log now is_dropped row =
    option_map (λ told. known_outcome told now is_dropped (label_of log.tasks row) row.1.progress)
    (finite.get log.tasks row.0)
