-- The tracker of a renderer: what it has kept of the frames that were written.
use Rattle.std.specs.Prelude.{Option}
use Rattle.std.specs.Option.{option_map}
use Rattle.prodash_base.specs.Trackers.{Tracker}
use Rattle.prodash_base.specs.FrameTrackers.{FrameTracker}
use Rattle.prodash_line.specs.Renderer.{Renderer}

-- the tracker after the frames that were kept
abbrev pub kept_of : Option FrameTracker → Option Tracker
kept_of t = option_map (λ t. t.kept) t

-- the renderer with the tracker that was kept
abbrev pub tracked : Renderer → Option FrameTracker → Renderer
tracked r t = record r { tracker = kept_of t }
