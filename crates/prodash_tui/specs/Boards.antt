-- A dashboard on a terminal: what each call leaves of it, and the signs of its frames.
use Rattle.std.specs.Prelude.{ℕ, ◌+◌, ◌-◌, ◌^◌, min, max, Bool, true, false, ◌||◌, nat_eq, List, [], ◌++◌, Option, Some, None, unwrap_or, if◌then◌else◌}
use Rattle.std.specs.Global.{Vec}
use Rattle.std.specs.Option.{option_map}
use Rattle.prodash_base.specs.Moments.{is_multiple}
use Rattle.prodash_base.specs.Rows.{rows_of}
use Rattle.prodash_base.specs.Trackers.{Tracker, new_tracker}
use Rattle.prodash_core.specs.declared.render.tui.event.Answer.{Answer}
use Rattle.prodash_core.specs.declared.render.tui.event.Answer.TheVariants as answers
use Rattle.prodash_core.specs.declared.render.tui.event.Event.{Event}
use Rattle.prodash_core.specs.declared.render.tui.event.Rect.{Rect}
use Rattle.prodash_core.specs.declared.render.tui.options.Options.{Options}
use Rattle.prodash_core.specs.declared.render.tui.state.State.{State}
use Rattle.prodash_core.specs.declared.render.tui.event.Line.{Line}
use Rattle.prodash_core.specs.Dashboard.{handle, new_state}
use Rattle.prodash_tui.specs.declared.dashboard.contents.Contents.{Contents}
use Rattle.prodash_tui.specs.declared.dashboard.phase.Phase.{Phase}
use Rattle.prodash_tui.specs.declared.dashboard.phase.Phase.TheVariants.{Running, Stopped, Closed}
use Rattle.prodash_tui.specs.declared.draw.input.Input.{Input}
use Rattle.prodash_tui.specs.declared.sign.Sign.{Sign}
use Rattle.prodash_tui.specs.Dashboards.{state_after, tree_after, whole_dashboard}
use Rattle.prodash_tui.specs.Grids.{Sheet, blank_sheet}
use Rattle.prodash_tui.specs.Rates.{Rates, rates_by, tracker_after}
use Rattle.prodash_tui.specs.Screens.{Buffers, blank_buffers, drawn, enter, frame, leave, with_next}

-- a dashboard: its state, the size of the terminal, the alternate screen if that was entered, how many columns the tree is taken to have, how many frames were drawn,
-- their interval, after how many of them the tree is measured, the tracker of throughput if that is shown, and whether it is running
pub record Board : Type 0 where
  pub state : State
  pub width : ℕ
  pub height : ℕ
  pub screen : Option Buffers
  pub tree_columns : ℕ
  pub frames : ℕ
  pub nanoseconds_per_frame : ℕ
  pub every_nth_frame : Option ℕ
  pub tracker : Option Tracker
  pub phase : Phase

-- its first state: nothing is scrolled or hidden, and it fills the window size of the options
abbrev pub first_state : Options → Vec Line → State
first_state options information = record (new_state options.title information) { window_size = options.window_size }

-- a new one with this state, on a terminal of this size; it has a tracker if throughput is to be shown
abbrev pub new_board : Options → State → ℕ → ℕ → Board
new_board options state width height = record {
  state = state;
  width = width;
  height = height;
  screen = None;
  tree_columns = 0;
  frames = 0;
  nanoseconds_per_frame = options.nanoseconds_per_frame;
  every_nth_frame = options.recompute_column_width_every_nth_frame;
  tracker = if options.throughput then Some new_tracker else None;
  phase = Running;
}

-- does one in this phase run?
abbrev pub runs : Phase → Bool
runs Running = true
runs Stopped = false
runs Closed = false

-- is it running? until it has stopped or was closed
abbrev pub is_running : Board → Bool
is_running s = runs s.phase

-- was one in this phase closed?
abbrev pub has_closed : Phase → Bool
has_closed Running = false
has_closed Stopped = false
has_closed Closed = true

-- was it closed?
abbrev pub is_closed : Board → Bool
is_closed s = has_closed s.phase

-- where it is after an answer to an event
abbrev pub phase_after : Answer → Phase
phase_after answers.Redraw = Running
phase_after answers.Skip = Running
phase_after answers.Stop = Stopped

-- a running one with this state, which an event has left, and the answer to that
abbrev pub handled_running : Board → State × Answer → Board × Answer
handled_running s h = (record s { state = h.0; phase = phase_after h.1 }, h.1)

-- an event: one that isn't running stays as it is, and the answer is to stop
abbrev pub handled : Board → Event → Board × Answer
handled s e = if is_running s then handled_running s (handle s.state e) else (s, answers.Stop)

-- the terminal has another size: both grids of the screen are blank, and it may show anything
abbrev pub resized : ℕ → ℕ → Board → Board
resized width height s = record s { width = width; height = height; screen = option_map (λ b. blank_buffers width height) s.screen }

-- what a frame draws
abbrev pub input_of : Board → Contents → Input
input_of s c = record {
  rows = c.rows;
  messages = c.messages;
  nanoseconds_per_frame = s.nanoseconds_per_frame;
  at = c.at;
  time = c.time;
  tree_columns = s.tree_columns;
}

-- the part of the terminal that it fills: the window size that was set, or all of it
abbrev pub area_of : Board → Rect
area_of s = unwrap_or s.state.window_size (record { x = 0; y = 0; width = s.width; height = s.height })

-- the throughputs that the next frame shows
abbrev pub rates_in : Board → Contents → Rates
rates_in s c = rates_by s.tracker c.at (rows_of c.rows.now)

-- the grid of the next frame
abbrev pub next_grid : Board → Contents → Sheet
next_grid s c = whole_dashboard (rates_in s c) s.state (input_of s c) (area_of s) (blank_sheet s.width s.height)

-- the signs before it: the first frame enters the alternate screen
abbrev pub opening : Option Buffers → List Sign
opening None = enter
opening (Some b) = []

-- the grids of the screen, with this one drawn next
abbrev pub next_buffers : Board → Sheet → Buffers
next_buffers s g = with_next g (unwrap_or s.screen (blank_buffers s.width s.height))

-- the signs of a frame of this grid
abbrev pub signs_of : Board → Sheet → List Sign
signs_of s g = opening s.screen ++ frame (next_buffers s g)

-- the signs of the next frame
abbrev pub frame_signs : Board → Contents → List Sign
frame_signs s c = signs_of s (next_grid s c)

-- after how many frames the tree is measured
abbrev pub interval_of : Option ℕ → ℕ
interval_of None = 1
interval_of (Some n) = max n 1

-- is the tree measured in the frame of this number? in the first one, in every nth, and as long as it has no columns
abbrev pub is_measured : Option ℕ → ℕ → ℕ → Bool
is_measured every n columns = nat_eq n 1 || (is_multiple n (interval_of every) || nat_eq columns 0)

-- the number of the next frame, which a `usize` counts
abbrev pub next_number : Board → ℕ
next_number s = min (s.frames + 1) (2 ^ 64 - 1)

-- it after a frame in which the tree has so many columns
abbrev pub counted : ℕ → Board → Board
counted columns s = record s {
  tree_columns = if is_measured s.every_nth_frame (next_number s) columns then columns else s.tree_columns;
  frames = next_number s;
}

-- it after a frame of this grid is on the screen
abbrev pub shown : Sheet → Board → Board
shown g s = record s { screen = Some (drawn (next_buffers s g)) }

-- how many columns the tree has in the next frame
abbrev pub tree_in_frame : Board → Contents → ℕ
tree_in_frame s c = tree_after s.state (input_of s c) (area_of s)

-- it after the next frame is drawn and on the screen, and the tracker has observed the rows
abbrev pub framed : Board → Contents → Board
framed s c = record (shown (next_grid s c) s) {
  state = state_after s.state (input_of s c) (area_of s);
  tracker = tracker_after s.tracker c.at (rows_of c.rows.now);
}

-- it after the next frame
abbrev pub after_frame : Board → Contents → Board
after_frame s c = counted (tree_in_frame s c) (framed s c)

-- the signs at the end: if the alternate screen was entered, it is left
abbrev pub closing : Option Buffers → List Sign
closing None = []
closing (Some b) = leave

-- it after that
abbrev pub closed : Board → Board
closed s = record s { screen = None; phase = Closed }
