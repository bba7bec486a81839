-- Trackers of frames that may be refused: what a frame observes counts once the frame is kept.
use Rattle.std.specs.Prelude.{ℕ, List, Option}
use Rattle.prodash_base.specs.Path.{Path}
use Rattle.prodash_base.specs.Rows.{PathRow}
use Rattle.prodash_base.specs.Trackers as trackers
use Rattle.prodash_base.specs.Trackers.{Tracker, new_tracker, update_elapsed, reconcile}

pub record FrameTracker : Type 0 where
  -- the tracker after the frames that were kept
  pub kept : Tracker
  -- the tracker with what the frame being drawn has observed so far
  pub pending : Tracker

-- a tracker before its first frame
abbrev pub new_frame_tracker : FrameTracker
new_frame_tracker = record { kept = new_tracker; pending = new_tracker }

-- the tracker when a frame begins: what a frame that wasn't kept had observed is forgotten
abbrev pub begin : FrameTracker → ℕ → FrameTracker
begin t at = record { kept = t.kept; pending = update_elapsed t.kept at }

-- the tracker after a value of a path
abbrev pub observe_pending : FrameTracker → Path → Option ℕ → FrameTracker
observe_pending t path value = record { kept = t.kept; pending = trackers.observe t.pending path value }

-- the tracker once the frame is kept, with the observations of these rows' paths alone
abbrev pub keep : FrameTracker → List PathRow → FrameTracker
keep t rows = record { kept = reconcile t.pending rows; pending = reconcile t.pending rows }
