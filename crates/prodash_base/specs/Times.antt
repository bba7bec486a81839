-- Lengths of time as texts, and how long work still takes.
use Rattle.std.specs.Prelude.{ℕ, ◌+◌, ◌*◌, ◌/◌, ◌%◌, ◌^◌, min, nat_eq, nat_le, nat_lt, Bool, true, false, List, [], ◌++◌, codes, Option, Some, None, if◌then◌else◌, unwrap_or}
use Rattle.std.specs.Fmt.{decimal}
use Rattle.prodash_base.specs.Moments.{seconds_of}
use Rattle.prodash_base.specs.Numerals.{last_digits}
use Rattle.prodash_base.specs.declared.timing.task_time.TaskTime.{TaskTime}

-- a number of a unit, and one below 100 of the next smaller unit in two digits, as `2m10s`
abbrev pub in_parts : ℕ → List ℕ → ℕ → List ℕ → List ℕ
in_parts n unit m smaller = decimal n ++ unit ++ last_digits 2 m ++ smaller

-- a number of seconds in its two largest units, rounded down: `42s`, `2m10s`, `3h05m`, `7d04h`
abbrev pub seconds_text : ℕ → List ℕ
seconds_text s =
    if nat_lt s 60 then decimal s ++ codes "s"
    else if nat_lt s 3600 then in_parts (s / 60) (codes "m") (s % 60) (codes "s")
    else if nat_lt s 86400 then in_parts (s / 3600) (codes "h") (s / 60 % 60) (codes "m")
    else in_parts (s / 86400) (codes "d") (s / 3600 % 24) (codes "h")

-- a number of nanoseconds: below ten seconds with tenths, as `3.2s`, rounded down
abbrev pub duration_text : ℕ → List ℕ
duration_text ns =
    if nat_lt ns (10 ^ 10) then decimal (seconds_of ns) ++ codes "." ++ decimal (ns / 10 ^ 8 % 10) ++ codes "s"
    else seconds_text (seconds_of ns)

-- whole hours and a colon; nothing below an hour
abbrev pub hours_text : ℕ → List ℕ
hours_text s = if nat_lt s 3600 then [] else decimal (s / 3600) ++ codes ":"

-- a number of nanoseconds as the time on a stopwatch: `[00:42]`, from an hour on `[1:02:03]`
abbrev pub stopwatch_text : ℕ → List ℕ
stopwatch_text ns =
    let s = seconds_of ns in
    codes "[" ++ hours_text s ++ last_digits 2 (s / 60 % 60) ++ codes ":" ++ last_digits 2 (s % 60) ++ codes "]"

-- a quotient rounded up
abbrev pub rounded_up : ℕ → ℕ → ℕ
rounded_up a b = if nat_eq (a % b) 0 then a / b else a / b + 1

-- the greatest number of seconds that is said of work that is left: 99 days
abbrev pub most_remaining : ℕ
most_remaining = 99 * 86400

-- the seconds that so many steps still take, rounded up, if `done` steps took so many nanoseconds;
-- none if no step was done
abbrev pub remaining_seconds : ℕ → ℕ → ℕ → Option ℕ
remaining_seconds left done ns =
    if nat_eq done 0 then None
    else Some (min (rounded_up (left * ns) (done * 10 ^ 9)) most_remaining)

-- a step at its bound or past it is done
abbrev pub is_past : ℕ → Option ℕ → Bool
is_past step None = false
is_past step (Some bound) = nat_le bound step

-- when a task was first seen at its bound, if it is there: when it was before, or now
abbrev pub finished_at : Bool → Option ℕ → ℕ → Option ℕ
finished_at false before now = None
finished_at true before now = Some (unwrap_or before now)

-- how long the rest takes, as `, 12s left`; nothing if that isn't known
abbrev pub left_text : Option ℕ → List ℕ
left_text None = []
left_text (Some seconds) = codes ", " ++ seconds_text seconds ++ codes " left"

-- for how long there was no step, as `, no step for 12s`; nothing if there were steps
abbrev pub stalled_text : Option ℕ → List ℕ
stalled_text None = []
stalled_text (Some seconds) = codes ", no step for " ++ seconds_text seconds

-- how long a task has run, as `42s`, or how long it took, as `in 42s`
abbrev pub elapsed_text : Bool → ℕ → List ℕ
elapsed_text false seconds = seconds_text seconds
elapsed_text true seconds = codes "in " ++ seconds_text seconds

-- what a row says of its task's time: `1m05s, 2m10s left`, `32s, no step for 12s`, `in 3m15s`
abbrev pub time_text : TaskTime → List ℕ
time_text t =
    elapsed_text t.has_finished t.elapsed ++ left_text t.remaining ++ stalled_text t.stalled
