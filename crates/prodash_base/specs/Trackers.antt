-- Trackers of throughput: what is observed at each path, and what a call makes of it.
use Rattle.std.specs.Prelude.{◌≡◌, ℕ, ◌-◌, ◌∷◌, [], List, Bool, nat_lt, Option, Some, None, if◌then◌else◌, unwrap_or, Contains}
use Rattle.std.specs.List.{list_any}
use Rattle.std.specs.Map.{keys_of}
use Rattle.std.specs.Option.{option_map}
use Rattle.std.specs.FinMap as finite
use Rattle.prodash_base.specs.Numbers.{same_numbers}
use Rattle.prodash_base.specs.Path.{Path, path_cmp}
use Rattle.prodash_base.specs.Rows.{PathRow}
use Rattle.prodash_base.specs.Samples.{one_second, samples_of, after_mark, rate}
use Rattle.prodash_base.specs.Held.{Summaries, held_after, recent_in, joined}
use Rattle.prodash_base.specs.declared.throughput.sample.Observation.{Observation}
use Rattle.prodash_base.specs.declared.throughput.sample.Sample.{Sample}
use Rattle.prodash_base.specs.declared.unit.display.Throughput.{Throughput}

-- from a path to all its observations, the latest first
abbrev pub Observations : Type 0
Observations = finite.FinMap path_cmp (List Observation)

-- the latest moment, the time since the previous one, the observations, and what is held of them
pub record Tracker : Type 0 where
  pub updated_at : Option ℕ
  pub elapsed : Option ℕ
  pub observations : Observations
  pub held : Summaries

-- a tracker before its first moment
abbrev pub new_tracker : Tracker
new_tracker =
    record { updated_at = None; elapsed = None; observations = finite.empty; held = finite.empty }

-- the time from the previous moment on; none without one, and none if the clock went back
abbrev pub elapsed_since : Option ℕ → ℕ → Option ℕ
elapsed_since None at = None
elapsed_since (Some previous) at = if nat_lt at previous then None else Some (at - previous)

-- the tracker at a new moment
abbrev pub update_elapsed : Tracker → ℕ → Tracker
update_elapsed t at =
    record t { updated_at = Some at; elapsed = elapsed_since t.updated_at at }

-- an observation, if there are both an elapsed time and a value
abbrev pub observation_of : Option ℕ → Option ℕ → Option Observation
observation_of (Some elapsed) (Some value) = Some (record { elapsed = elapsed; value = value })
observation_of _ _ = None

-- all observations of a path, of which an unknown path has none
abbrev pub observations_of : Observations → Path → List Observation
observations_of m path = unwrap_or (finite.get m path) []

-- the observations with one more of a path, if there is one
abbrev pub with_observation : Observations → Path → Option Observation → Observations
with_observation m path None = m
with_observation m path (Some o) = finite.insert m path (o ∷ observations_of m path)

-- what is held, with one more observation of a path, if there is one
abbrev pub with_held : Summaries → Observations → Path → Option Observation → Summaries
with_held held m path None = held
with_held held m path (Some o) = finite.insert held path (held_after o (observations_of m path))

-- the samples of a path after its last mark
abbrev pub recent_samples : Observations → Path → List Sample
recent_samples m path = after_mark (samples_of (observations_of m path))

-- the samples that are held of a path
abbrev pub held_samples : Tracker → Path → List Sample
held_samples t path = recent_in (finite.get t.held path)

-- of a path the samples after its last mark are held, joined, and no others
abbrev pub HoldsRecent : Tracker → Path → Type 0
HoldsRecent t path = held_samples t path ≡ joined (recent_samples t.observations path)

-- the rate of a path after one more observation; none without one
abbrev pub rate_after : Observations → Path → Option Observation → Option ℕ
rate_after m path None = None
rate_after m path (Some o) = rate (o ∷ observations_of m path)

-- the tracker after a value of a path
abbrev pub observe : Tracker → Path → Option ℕ → Tracker
observe t path value = record t {
  observations = with_observation t.observations path (observation_of t.elapsed value);
  held = with_held t.held t.observations path (observation_of t.elapsed value);
}

-- a change in one second
abbrev pub in_one_second : ℕ → Throughput
in_one_second change = record { value_change_in_timespan = change; timespan = one_second }

-- the throughput that a value of a path gives
abbrev pub throughput_of : Tracker → Path → Option ℕ → Option Throughput
throughput_of t path value =
    option_map in_one_second (rate_after t.observations path (observation_of t.elapsed value))

-- the test whether one of the rows has this path
abbrev pub is_listed : List PathRow → Path → Bool
is_listed rows path = list_any (same_numbers path) (keys_of rows)

-- the tracker with the listed paths alone
abbrev pub reconcile : Tracker → List PathRow → Tracker
reconcile t rows = record t {
  observations = finite.retain_keys t.observations (is_listed rows);
  held = finite.retain_keys t.held (is_listed rows);
}

-- the observations after are those before of these paths, and of no other path
pub record KeepsOnly (paths : List Path) (before after : Observations) : Type 0 where
  pub listed : (path : Path) → Contains paths path → finite.get after path ≡ finite.get before path
  pub others : (path : Path) → ¬ Contains paths path → finite.get after path ≡ None

-- the step of a row, if the row has progress
abbrev pub step_of : PathRow → Option ℕ
step_of row = option_map (λ p. p.counter) row.1.progress

-- the tracker after the steps of these rows, in order
abbrev pub observe_rows : Tracker → List PathRow → Tracker
observe_rows t [] = t
observe_rows t (row ∷ rows) = observe_rows (observe t row.0 (step_of row)) rows

-- the throughput that each of these rows gives, in order
abbrev pub throughputs_of : Tracker → List PathRow → List (Option Throughput)
throughputs_of t [] = []
throughputs_of t (row ∷ rows) =
    throughput_of t row.0 (step_of row) ∷ throughputs_of (observe t row.0 (step_of row)) rows

-- the throughputs that a frame at a moment shows of the rows that it draws
abbrev pub frame_throughputs : Tracker → ℕ → List PathRow → List (Option Throughput)
frame_throughputs t at drawn = throughputs_of (update_elapsed t at) drawn

-- the tracker after a frame at a moment that draws `drawn` of these rows
abbrev pub after_frame : Tracker → ℕ → List PathRow → List PathRow → Tracker
after_frame t at drawn rows = reconcile (observe_rows (update_elapsed t at) drawn) rows
