-- The renderer: what it keeps, the frame that it draws for an input, and what that frame leaves.
use Rattle.std.specs.Prelude.{◌≡◌, ℕ, ◌-◌, nat_eq, List, [], ◌∷◌, ◌++◌, length, drop, Bool, true, false, ◌&&◌, ◌||◌, not, Option, Some, None, if◌then◌else◌, Result, Ok, Err, ◌⊎◌}
use Rattle.std.specs.Option.{option_map}
use Rattle.std.specs.List.{list_any}
use Rattle.prodash_base.specs.Rings.{keep_last}
use Rattle.prodash_base.specs.Rows.{PathRow, same_rows}
use Rattle.prodash_base.specs.Trackers as trackers
use Rattle.prodash_base.specs.Trackers.{Tracker, new_tracker}
use Rattle.prodash_base.specs.Timers.{TimerState, new_timer, timer_after, goes_on}
use Rattle.prodash_base.specs.declared.messages.Message.{Message}
use Rattle.prodash_base.specs.declared.refusal.Refusal.{Refusal}
use Rattle.prodash_base.specs.declared.refusal.Refusal.TheVariants as refusals
use Rattle.prodash_line.specs.declared.render.line.draw.input.Options.{Options}
use Rattle.prodash_line.specs.declared.render.line.draw.input.Input.{Input}
use Rattle.prodash_line.specs.declared.render.line.draw.input.Input.TheVariants.{Tick, Resize, Quit}
use Rattle.prodash_line.specs.declared.render.line.draw.input.Answer.{Answer}
use Rattle.prodash_line.specs.declared.render.line.draw.input.Answer.TheVariants as answers
use Rattle.prodash_line.specs.declared.render.line.page.sign.Sign.{Sign}
use Rattle.prodash_line.specs.declared.render.line.page.sign.Sign.TheVariants.{CarriageReturn, EraseLine, HideCursor, ShowCursor}
use Rattle.prodash_line.specs.Signs.{spelling}
use Rattle.prodash_line.specs.Lines.{Line}
use Rattle.prodash_line.specs.declared.render.line.draw.action.Action.{Action}
use Rattle.prodash_line.specs.declared.render.line.draw.action.Action.TheVariants.{Leave, Redraw, Erase, Close}
use Rattle.prodash_line.specs.Frames.{Body, Unchanged, Draws, Closes, Frame, frame_signs, widths_of}
use Rattle.prodash_line.specs.DrawnLines.{erases_rows, layout_of}
use Rattle.prodash_line.specs.ProgressRows.{DrawnRow, filtered, with_throughputs, times_at, fitting, more_lines, row_lines, greatest_midpoint}
use Rattle.prodash_line.specs.MessageLines.{message_lines, latest_origin_widths}
use Rattle.prodash_line.specs.Screens.{ScreenState, WritesFrame, BreaksDuring}

-- what the renderer keeps from frame to frame
pub record Renderer : Type 0 where
  pub options : Options
  -- the width of each line on screen
  pub widths : List ℕ
  -- the greatest midpoint of the frame drawn last; 0 before the first
  pub midpoint : ℕ
  -- the rows at the latest accepted tick with a root; none before the first
  pub last_rows : Option (List PathRow)
  -- the widths of the latest origins, at most as many as the terminal has rows
  pub origin_widths : List ℕ
  -- how many messages had been pushed at the latest accepted tick with a root; none before the first
  pub seen : Option ℕ
  -- the tracker of throughput, if throughput is shown
  pub tracker : Option Tracker
  -- the timer of tasks after the latest accepted tick with a root, if times are shown
  pub timer : Option TimerState
  -- whether a frame has erased the rows of tasks since they were last drawn
  pub rows_erased : Bool
  -- whether a frame has hidden the cursor
  pub cursor_hidden : Bool
  -- the refusal of every further frame, if there is one
  pub ended : Option Refusal

-- a coloured terminal of 80 columns and 20 rows; no filter, no timestamps, a visible cursor, and it keeps running
abbrev pub default_options : Options
default_options = record {
  level_filter = None;
  terminal_dimensions = (80, 20);
  keep_running_if_progress_is_empty = true;
  output_is_terminal = true;
  colored = true;
  timestamp = false;
  hide_cursor = false;
  defensive = false;
  synchronized = false;
  whole_messages = false;
  bare_without_origin = false;
  bar_columns = None;
  ascii = false;
  times = false;
  prefer_running = false;
}

-- the refusal of an ended renderer
abbrev pub IsEndRefusal : Refusal → Type 0
IsEndRefusal refusal = (refusal ≡ refusals.Closed) ⊎ (refusal ≡ refusals.Broken)

-- what a tick sees of a tree: its rows, the new messages, and how many messages have been pushed; nothing without a root
abbrev pub Seen : Type 0
Seen = Option (List PathRow × List Message × ℕ)

-- nothing drawn yet, with a tracker if throughput is to be shown, and a timer if times are
abbrev pub new_renderer : Options → Bool → Renderer
new_renderer options throughput = record {
  options = options;
  widths = [];
  midpoint = 0;
  last_rows = None;
  origin_widths = [];
  seen = None;
  tracker = if throughput then Some new_tracker else None;
  timer = if options.times then Some new_timer else None;
  rows_erased = false;
  cursor_hidden = false;
  ended = None;
}

-- does the next frame hide the cursor? the first does, if the cursor of a terminal is to be hidden
abbrev pub hides_cursor : Renderer → Bool
hides_cursor r = r.options.hide_cursor && (r.options.output_is_terminal && not r.cursor_hidden)

-- is the cursor hidden once the next frame has begun?
abbrev pub is_cursor_hidden : Renderer → Bool
is_cursor_hidden r = r.cursor_hidden || hides_cursor r

-- what a frame begins with
abbrev pub opening_of : Renderer → List Sign
opening_of r = if hides_cursor r then HideCursor ∷ [] else []

-- does a closing frame erase the row in which the first line on screen was? on a terminal, if it hasn't erased it already
abbrev pub erases_at_end : Options → Bool
erases_at_end options = options.output_is_terminal && not options.defensive

-- what a closing frame ends with: it shows a cursor that is hidden, and perhaps erases a row
abbrev pub ending_of : Renderer → List Sign
ending_of r = (if is_cursor_hidden r then ShowCursor ∷ [] else []) ++ (if erases_at_end r.options then EraseLine ∷ CarriageReturn ∷ [] else [])

-- no tick with a root was accepted before, or the latest saw other rows
abbrev pub rows_changed : Option (List PathRow) → List PathRow → Bool
rows_changed None rows = true
rows_changed (Some before) rows = not (same_rows before rows)

-- are there new messages?
abbrev pub has_messages : List Message → Bool
has_messages messages = not (nat_eq (length messages) 0)

-- must rows be drawn that haven't changed? if the frame erases rows, and prints messages or comes after one that erased the rows of tasks
abbrev pub draws_again : Renderer → Bool → Bool
draws_again r printed = erases_rows r.options && (printed || r.rows_erased)

-- does the time of some row go on that passes the filter?
abbrev pub any_goes_on : Option (ℕ × ℕ) → List PathRow → Bool
any_goes_on levels rows = list_any (λ (row : PathRow). goes_on row.1.progress) (filtered levels rows)

-- do times go on that are shown?
abbrev pub times_go_on : Options → List PathRow → Bool
times_go_on options rows = options.times && any_goes_on options.level_filter rows

-- rows are drawn on a terminal if they are shown and have changed, or their times go on, or they must be drawn again
abbrev pub is_drawn : Renderer → Bool → Bool → List PathRow → Bool
is_drawn r show printed rows =
    show && (r.options.output_is_terminal && (draws_again r printed || (times_go_on r.options rows || rows_changed r.last_rows rows)))

-- a tick that sees no rows closes the renderer, unless it is to keep running
abbrev pub closes_at : Renderer → List PathRow → Bool
closes_at r rows = not r.options.keep_running_if_progress_is_empty && nat_eq (length rows) 0

-- the rows that are remembered
abbrev pub latest_rows : Option (List PathRow) → List PathRow
latest_rows None = []
latest_rows (Some rows) = rows

-- the rows that a frame at a moment draws, with their throughputs
abbrev pub drawn_rows : Renderer → ℕ → List PathRow → List DrawnRow
drawn_rows r at rows = with_throughputs r.tracker at (filtered r.options.level_filter rows)

-- those of them that fit the window
abbrev pub fitting_rows : Renderer → ℕ → List PathRow → List DrawnRow
fitting_rows r at rows = fitting r.options (drawn_rows r at rows)

-- the lines of the rows that fit, and the line that says how many are hidden
abbrev pub drawn_lines : Renderer → ℕ → List PathRow → List Line
drawn_lines r at rows =
    row_lines r.options r.midpoint (times_at r.timer at) (fitting_rows r at rows)
    ++ more_lines r.options (length (drawn_rows r at rows) - length (fitting_rows r at rows))

-- the tracker after a frame at a moment that draws rows
abbrev pub tracker_after : Renderer → ℕ → List PathRow → Option Tracker
tracker_after r at rows =
    option_map (λ t. trackers.after_frame t at (filtered r.options.level_filter rows) rows) r.tracker

-- rows as they are drawn: their lines, the greatest of their midpoints, and the tracker that has observed them
pub record Drawing : Type 0 where
  pub lines : List Line
  pub midpoint : ℕ
  pub tracker : Option Tracker

-- the drawing of rows at a moment
abbrev pub drawing_of : Renderer → ℕ → List PathRow → Drawing
drawing_of r at rows =
    record {
      lines = drawn_lines r at rows;
      midpoint = greatest_midpoint r.options.defensive (fitting_rows r at rows);
      tracker = tracker_after r at rows;
    }

-- the renderer on a terminal of this size
abbrev pub resized : Renderer → ℕ → ℕ → Renderer
resized r columns height = record r {
  options = record r.options { terminal_dimensions = (columns, height) };
  origin_widths = keep_last height r.origin_widths;
}

-- the renderer with what it remembers of an input: the rows of a tick, the timer that has seen them, the origins of its messages and how many
-- were pushed; the size of a resize
abbrev pub remember : Renderer → Input → Renderer
remember r (Tick at show (Some seen)) = record r {
  last_rows = Some seen.0;
  origin_widths = latest_origin_widths r.options r.origin_widths seen.1;
  seen = Some seen.2;
  timer = option_map (λ t. timer_after t at seen.0) r.timer;
}
remember r (Tick at show None) = r
remember r (Resize at show columns height) = resized r columns height
remember r (Quit at) = r

-- the moment of an input
abbrev pub moment_of : Input → ℕ
moment_of (Tick at show seen) = at
moment_of (Resize at show columns height) = at
moment_of (Quit at) = at

-- what the frame of an input draws, if it draws rows: those that are remembered then
abbrev pub drawing_at : Renderer → Input → Drawing
drawing_at r input = let r' = remember r input in drawing_of r' (moment_of input) (latest_rows r'.last_rows)

-- what a tick without rows to draw does after its messages: it erases the lines on screen if it has printed any and frames erase rows
abbrev pub idle_action : Renderer → Bool → Action
idle_action r printed = if erases_rows r.options && printed then Erase else Leave

-- what a tick with a root does after its messages: it closes the renderer, or draws the rows, or erases or leaves the lines on screen
abbrev pub tick_action : Renderer → Bool → Bool → List PathRow → Action
tick_action r show printed rows = if closes_at r rows then Close else if is_drawn r show printed rows then Redraw else idle_action r printed

-- what a resize does: it draws the remembered rows if they are shown on a terminal
abbrev pub resize_action : Renderer → Bool → Action
resize_action r show = if show && r.options.output_is_terminal then Redraw else Leave

-- what the frame of an input does after its messages
abbrev pub action_at : Renderer → Input → Action
action_at r (Tick at show (Some seen)) = tick_action r show (has_messages seen.1) seen.0
action_at r (Tick at show None) = Close
action_at r (Resize at show columns height) = resize_action r show
action_at r (Quit at) = Close

-- the lines of the messages that an input prints
abbrev pub printed_at : Renderer → Input → List Line
printed_at r (Tick at show (Some seen)) = message_lines r.options r.origin_widths seen.1
printed_at r (Tick at show None) = []
printed_at r (Resize at show columns height) = []
printed_at r (Quit at) = []

-- the body of a frame with this action: what it draws, if it draws rows, and what it ends with, if it closes the renderer
abbrev pub body_of : Action → Drawing → List Sign → Body
body_of Leave drawing ending = Unchanged
body_of Redraw drawing ending = Draws drawing.lines
body_of Erase drawing ending = Draws []
body_of Close drawing ending = Closes ending

-- the frame of an input
abbrev pub frame_at : Renderer → Input → Frame
frame_at r input = record {
  layout = layout_of (remember r input).options;
  opening = opening_of r;
  messages = printed_at r input;
  body = body_of (action_at r input) (drawing_at r input) (ending_of r);
}

-- what a frame leaves to the next one: the width of each line on screen, the greatest midpoint, the tracker, and whether the rows of tasks are
-- erased
pub record FrameState : Type 0 where
  pub widths : List ℕ
  pub midpoint : ℕ
  pub tracker : Option Tracker
  pub rows_erased : Bool

-- what a frame with this action leaves, over lines on screen of these widths
abbrev pub state_after : Action → Renderer → Drawing → List ℕ → FrameState
state_after Leave r drawing widths = record { widths = widths; midpoint = r.midpoint; tracker = r.tracker; rows_erased = r.rows_erased }
state_after Redraw r drawing widths =
    record { widths = widths_of drawing.lines; midpoint = drawing.midpoint; tracker = drawing.tracker; rows_erased = false }
state_after Erase r drawing widths = record { widths = []; midpoint = r.midpoint; tracker = r.tracker; rows_erased = true }
state_after Close r drawing widths = record { widths = []; midpoint = r.midpoint; tracker = r.tracker; rows_erased = r.rows_erased }

-- what the frame of an input leaves: its messages are over as many of the lines on screen, from the first on
abbrev pub state_at : Renderer → Input → FrameState
state_at r input = state_after (action_at r input) r (drawing_at r input) (drop (length (printed_at r input)) r.widths)

-- a closing frame is the last
abbrev pub ended_after : Action → Option Refusal → Option Refusal
ended_after Close ended = Some refusals.Closed
ended_after _ ended = ended

-- what is returned for a frame with this action
abbrev pub answer_of : Action → Answer
answer_of Close = answers.Ended
answer_of _ = answers.Drawn

-- the renderer after an input: what it remembers of it, and what its frame leaves
abbrev pub next_renderer : Renderer → Input → Renderer
next_renderer r input = record (remember r input) {
  widths = (state_at r input).widths;
  midpoint = (state_at r input).midpoint;
  tracker = (state_at r input).tracker;
  rows_erased = (state_at r input).rows_erased;
  cursor_hidden = is_cursor_hidden r;
  ended = ended_after (action_at r input) r.ended;
}

-- the bytes of the frame
abbrev pub frame_bytes : Renderer → Input → List ℕ
frame_bytes r input = spelling (frame_signs r.widths (frame_at r input))

-- the whole frame is written
pub record Accepts (r : Renderer) (input : Input) (s : ScreenState) (answer : Answer) (r' : Renderer) (s' : ScreenState) : Type 0 where
  pub running : r.ended ≡ None
  pub returned : answer ≡ answer_of (action_at r input)
  pub renderer : r' ≡ next_renderer r input
  pub screen : WritesFrame (frame_bytes r input) s s'

-- out of memory: nothing has changed
pub record RunsOutOfMemory (r : Renderer) (s : ScreenState) (r' : Renderer) (s' : ScreenState) : Type 0 where
  pub running : r.ended ≡ None
  pub renderer : r' ≡ r
  pub screen : s' ≡ s

-- the renderer has ended, and refuses this frame as every other: nothing has changed
pub record Refuses (r : Renderer) (refusal : Refusal) (s : ScreenState) (r' : Renderer) (s' : ScreenState) : Type 0 where
  pub ended : r.ended ≡ Some refusal
  pub renderer : r' ≡ r
  pub screen : s' ≡ s

-- the screen breaks during the frame, and the renderer refuses every further frame
pub record Breaks (r : Renderer) (input : Input) (s : ScreenState) (r' : Renderer) (s' : ScreenState) : Type 0 where
  pub running : r.ended ≡ None
  pub renderer : r' ≡ record r { ended = Some refusals.Broken }
  pub screen : BreaksDuring (frame_bytes r input) s s'

-- what is returned for an input, and what it leaves of the renderer and the screen
abbrev pub Renders : Renderer → Input → ScreenState → Result Answer Refusal → Renderer → ScreenState → Type 0
Renders r input s (Ok answer) r' s' = Accepts r input s answer r' s'
Renders r input s (Err refusals.Memory) r' s' = RunsOutOfMemory r s r' s'
Renders r input s (Err refusals.Closed) r' s' = Refuses r refusals.Closed s r' s'
Renders r input s (Err refusals.Broken) r' s' = Refuses r refusals.Broken s r' s' ⊎ Breaks r input s r' s'
Renders r input s (Err _) r' s' = ⊥

-- the same of a screen, given what a screen's state is
abbrev pub RendersOn : {S : Type 0} → (S → ScreenState) → Renderer → Input → S → Result Answer Refusal → Renderer → S → Type 0
RendersOn state r input s result r' s' = Renders r input (state s) result r' (state s')
