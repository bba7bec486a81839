-- The tracker of a dashboard during a frame.
use Rattle.std.specs.Prelude.{◌≡◌, ℕ, List, ◌++◌, Option}
use Rattle.std.specs.Option.{option_map}
use Rattle.prodash_base.specs.FrameTrackers.{FrameTracker}
use Rattle.prodash_base.specs.Rows.{rows_of}
use Rattle.prodash_base.specs.Trackers.{Tracker, observe_rows, reconcile, throughputs_of, update_elapsed}
use Rattle.prodash_base.specs.declared.progress.Row.{Row}
use Rattle.prodash_line.specs.Tracking.{kept_of}
use Rattle.prodash_line.specs.plumbing.Observing.{ahead_of}
use Rattle.prodash_tui.specs.Rates.{Rates, rates_by}

-- these are the throughputs that rows have at a moment, if there is a tracker
abbrev pub AreRatesAt : ℕ → List Row → Option FrameTracker → Rates → Type 0
AreRatesAt at rows tracker rates = rates ≡ rates_by (kept_of tracker) at (rows_of rows)

-- the throughputs of rows are appended, which the tracker observes one after another
abbrev pub AppendsRates : List Row → FrameTracker → Rates → Rates → Type 0
AppendsRates rows tracker old new = new ≡ old ++ throughputs_of tracker.pending (rows_of rows)

-- the tracker has observed rows one after another
abbrev pub ObservesEach : List Row → FrameTracker → FrameTracker → Type 0
ObservesEach rows old new = new.pending ≡ observe_rows old.pending (rows_of rows)

-- the tracker that has observed these rows at a moment, if there is one
abbrev pub observed_at : ℕ → List Row → Option Tracker → Option Tracker
observed_at at rows tracker = option_map (λ t. observe_rows (update_elapsed t at) (rows_of rows)) tracker

-- the tracker has observed a frame of these rows at a moment
abbrev pub ObservesFrame : ℕ → List Row → Option FrameTracker → Option FrameTracker → Type 0
ObservesFrame at rows old new = ahead_of new ≡ observed_at at rows (kept_of old)

-- the tracker with what it has observed of these rows alone, if there is one
abbrev pub kept_with : List Row → Option Tracker → Option Tracker
kept_with rows tracker = option_map (λ t. reconcile t (rows_of rows)) tracker
