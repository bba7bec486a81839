-- The throughputs that a frame shows, and the tracker that measures them.
use Rattle.std.specs.Prelude.{ℕ, List, [], slice_index_or, Option, Some, None}
use Rattle.std.specs.Option.{option_map}
use Rattle.prodash_base.specs.Rows.{PathRow}
use Rattle.prodash_base.specs.Trackers as trackers
use Rattle.prodash_base.specs.Trackers.{Tracker, frame_throughputs}
use Rattle.prodash_base.specs.declared.unit.display.Throughput.{Throughput}

-- the throughput of each row, if it has one; a row behind the end of the list has none
abbrev pub Rates : Type 0
Rates = List (Option Throughput)

-- the throughput of row i
abbrev pub rate_at : Rates → ℕ → Option Throughput
rate_at rates i = slice_index_or rates i None

-- the throughputs of rows that a frame at a moment observes, whether it shows them or not; none without a tracker
abbrev pub rates_by : Option Tracker → ℕ → List PathRow → Rates
rates_by None at rows = []
rates_by (Some t) at rows = frame_throughputs t at rows

-- the tracker after a frame of these rows at a moment, if there is one
abbrev pub tracker_after : Option Tracker → ℕ → List PathRow → Option Tracker
tracker_after tracker at rows = option_map (λ t. trackers.after_frame t at rows rows) tracker
