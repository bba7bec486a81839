-- Rows that are observed one after another, by a tracker if there is one.
use Rattle.std.specs.Prelude.{◌≡◌, ℕ, List, [], ◌∷◌, Option, Some, None}
use Rattle.std.specs.Option.{option_map}
use Rattle.prodash_base.specs.Rows.{PathRow, row_of, rows_of}
use Rattle.prodash_base.specs.declared.progress.Row.{Row}
use Rattle.prodash_line.specs.declared.render.line.draw.frame.Scene.{Scene}
use Rattle.prodash_line.specs.declared.render.line.draw.input.Options.{Options}
use Rattle.prodash_base.specs.Trackers.{Tracker, observe, update_elapsed, throughput_of, step_of, reconcile}
use Rattle.prodash_base.specs.declared.unit.display.Throughput.{Throughput}
use Rattle.prodash_line.specs.ProgressRows.{DrawnRow, filtered}
use Rattle.prodash_line.specs.declared.render.line.draw.action.Action.{Action}
use Rattle.prodash_line.specs.declared.render.line.draw.action.Action.TheVariants.{Redraw}
use Rattle.prodash_base.specs.FrameTrackers.{FrameTracker}
use Rattle.prodash_line.specs.Tracking.{kept_of}

-- the tracker after the rows that the frame that is being composed has observed
abbrev pub ahead_of : Option FrameTracker → Option Tracker
ahead_of t = option_map (λ t. t.pending) t

-- the tracker that a written frame with this action keeps: the one that has observed these rows, if it draws them
abbrev pub tracker_by : Action → Option FrameTracker → List PathRow → Option Tracker
tracker_by Redraw t rows = option_map (λ t. reconcile t rows) (ahead_of t)
tracker_by _ t rows = kept_of t

-- the tracker at a moment
abbrev pub tracker_at : ℕ → Option Tracker → Option Tracker
tracker_at at tracker = option_map (λ t. update_elapsed t at) tracker

-- the throughput that a row gives
abbrev pub throughput_by : Option Tracker → PathRow → Option Throughput
throughput_by None row = None
throughput_by (Some t) row = throughput_of t row.0 (step_of row)

-- the tracker after a row
abbrev pub observe_by : Option Tracker → PathRow → Option Tracker
observe_by tracker row = option_map (λ t. observe t row.0 (step_of row)) tracker

-- the rows, each with the throughput that it gives
abbrev pub shown_by : Option Tracker → List PathRow → List DrawnRow
shown_by tracker [] = []
shown_by tracker (row ∷ rows) =
    (row, throughput_by tracker row) ∷ shown_by (observe_by tracker row) rows

-- the tracker after the rows
abbrev pub observe_all : Option Tracker → List PathRow → Option Tracker
observe_all tracker [] = tracker
observe_all tracker (row ∷ rows) = observe_all (observe_by tracker row) rows

-- this is the throughput that a row gives
abbrev pub IsThroughputOf : Row → Option FrameTracker → Option Throughput → Type 0
IsThroughputOf row tracker throughput = throughput ≡ throughput_by (ahead_of tracker) (row_of row)

-- the tracker has observed a row
abbrev pub ObservesRow : Row → Option FrameTracker → Option FrameTracker → Type 0
ObservesRow row old new = ahead_of new ≡ observe_by (ahead_of old) (row_of row)

-- the tracker has observed those of these rows that the filter of levels lets through
abbrev pub ObservesRows : Option (ℕ × ℕ) → List Row → Option FrameTracker → Option FrameTracker → Type 0
ObservesRows levels rows old new = ahead_of new ≡ observe_all (ahead_of old) (filtered levels (rows_of rows))

-- the tracker has observed those of these rows that are drawn
abbrev pub ObservesDrawn : Options → List Row → Option FrameTracker → Option FrameTracker → Type 0
ObservesDrawn options rows old new = ObservesRows options.level_filter rows old new

-- the tracker has observed the rows of a scene that are drawn
abbrev pub ObservesScene : Scene → Option FrameTracker → Option FrameTracker → Type 0
ObservesScene scene old new = ObservesDrawn scene.options scene.rows.now old new
