-- What composing a frame writes, and what it leaves to the next frame.
use Rattle.std.specs.Prelude.{◌≡◌, ℕ, Bool, true, List, [], ◌∷◌, ◌++◌, ◌+◌, ◌-◌, length, Option, Some, max}
use Rattle.std.specs.Global.{Vec}
use Rattle.prodash_base.specs.FrameTrackers.{FrameTracker}
use Rattle.prodash_base.specs.declared.messages.Message.{Message}
use Rattle.prodash_base.specs.Rows.{PathRow, row_of, rows_of}
use Rattle.prodash_base.specs.Trackers.{Tracker}
use Rattle.prodash_base.specs.declared.progress.Row.{Row}
use Rattle.prodash_line.specs.declared.render.line.draw.input.Input.{Input}
use Rattle.prodash_line.specs.declared.render.line.draw.input.Input.TheVariants.{Tick, Resize}
use Rattle.prodash_line.specs.declared.render.line.draw.input.Options.{Options}
use Rattle.prodash_line.specs.declared.render.line.draw.action.Action.{Action}
use Rattle.prodash_line.specs.declared.render.line.draw.action.Drawn.{Drawn}
use Rattle.prodash_line.specs.declared.render.line.draw.action.Composed.{Composed}
use Rattle.prodash_line.specs.declared.render.line.draw.latest_rows.KeptLines.{KeptLines}
use Rattle.prodash_line.specs.declared.render.line.draw.latest_rows.LineSize.{LineSize}
use Rattle.prodash_line.specs.declared.render.line.draw.latest_rows.RowLine.{RowLine}
use Rattle.prodash_line.specs.declared.render.line.draw.layout.Layout.{Layout}
use Rattle.prodash_line.specs.declared.render.line.draw.layout.Layout.TheVariants.{Overwriting, Erasing}
use Rattle.prodash_line.specs.declared.render.line.draw.action.Action.TheVariants.{Leave}
use Rattle.prodash_line.specs.declared.render.line.page.sign.Sign.TheVariants.{EraseBelow}
use Rattle.prodash_line.specs.declared.render.line.draw.frame.Scene.{Scene}
use Rattle.prodash_line.specs.declared.render.line.draw.rank.Quotas.{Quotas}
use Rattle.prodash_line.specs.declared.render.line.draw.row.Measured.{Measured}
use Rattle.prodash_line.specs.declared.render.line.draw.line_writer.LineWriter.{LineWriter}
use Rattle.prodash_line.specs.declared.render.line.page.sign.Sign.{Sign}
use Rattle.prodash_line.specs.Signs.{spelling}
use Rattle.prodash_line.specs.Lines.{Line, columns_of}
use Rattle.prodash_line.specs.RowRanks.{ranks_of}
use Rattle.prodash_line.specs.DrawnLines.{layout_of, as_drawn}
use Rattle.prodash_line.specs.Frames.{Body, covered, erased_rows, lines_start, message_layout, messages_start, erasing_start, erasing_end, left_over, cursor_up, redraw, body_signs, widths_of, Frame, Closes, frame_signs}
use Rattle.prodash_line.specs.ProgressRows.{DrawnRow, Times, times_at, filtered, fitting_count, fitting, more_line, more_lines, row_line, row_lines, midpoint_of, greatest_midpoint}
use Rattle.prodash_line.specs.MessageLines.{message_lines, widths_of_origins}
use Rattle.prodash_base.specs.declared.refusal.Refusal.TheVariants as refusals
use Rattle.prodash_line.specs.Renderer.{Renderer, Drawing, FrameState, drawing_of, body_of, opening_of, ending_of, state_after, state_at, action_at, remember, latest_rows, frame_bytes, ended_after, is_cursor_hidden}
use Rattle.prodash_line.specs.plumbing.OverwriteBytes.{lines_bytes, row_end}
use Rattle.prodash_line.specs.plumbing.KeptLines.{AreAmong, AreKept, IsSizeOf, drawn_in, untimed_line, own_bytes}
use Rattle.prodash_line.specs.plumbing.Choosing.{quotas_of, all_reserved, chosen}
use Rattle.prodash_line.specs.plumbing.Observing.{shown_by, ahead_of, tracker_by}
use Rattle.prodash_line.specs.Tracking.{kept_of, tracked}

-- a closing frame after its messages: these lines on screen are blanked, and its end
abbrev pub closing_signs : Layout → Renderer → List ℕ → List Sign
closing_signs layout r widths = body_signs layout widths (Closes (ending_of r))

-- the closing frame without messages
abbrev pub closing_frame : Renderer → Frame
closing_frame r = record { layout = layout_of r.options; opening = opening_of r; messages = []; body = Closes (ending_of r) }

-- the renderer after a frame has begun
abbrev pub begun : Renderer → Renderer
begun r = record r { cursor_hidden = is_cursor_hidden r }

-- the renderer after the screen broke
abbrev pub broken : Renderer → Renderer
broken r = record r { ended = Some refusals.Broken }

-- the bytes of the closing frame without messages
abbrev pub closing_bytes : Renderer → List ℕ
closing_bytes r = spelling (frame_signs r.widths (closing_frame r))

-- a tick with a root that sees this
abbrev pub tick_seeing : ℕ → Bool → List PathRow × List Message × ℕ → Input
tick_seeing at show seen = Tick at show (Some seen)

-- the buffer holds the frame of an input
abbrev pub HoldsFrame : Renderer → Input → LineWriter → Type 0
HoldsFrame r input out = out.bytes ≡ frame_bytes r input

-- the buffer holds the frame that an input has with this tracker
abbrev pub Composes : Renderer → Option FrameTracker → Input → LineWriter → Type 0
Composes r tracker input out = HoldsFrame (tracked r tracker) input out

-- these signs follow the bytes of old
abbrev pub AppendsSigns : LineWriter → List Sign → LineWriter → Type 0
AppendsSigns old signs new = new.bytes ≡ old.bytes ++ spelling signs

-- these lines, over lines on screen of these widths, follow the bytes of old
abbrev pub AppendsOver : Layout → LineWriter → List ℕ → List Line → LineWriter → Type 0
AppendsOver layout old widths lines new = new.bytes ≡ old.bytes ++ lines_bytes layout widths lines

-- the lines of messages after origins of these widths, over lines on screen, follow the bytes of old
abbrev pub WritesMessages : Options → Vec ℕ → List ℕ → List Message → LineWriter → LineWriter → Type 0
WritesMessages options origin_widths widths messages old new =
    AppendsOver (message_layout (layout_of options)) old widths (message_lines options origin_widths.items messages) new

-- the widths of their origins follow those of old
abbrev pub AddsOrigins : Options → List Message → Vec ℕ → Vec ℕ → Type 0
AddsOrigins options messages old new = new.items ≡ old.items ++ widths_of_origins options.defensive messages

-- what a frame with this action begins with where it is to erase rows
abbrev pub action_start : Layout → Action → List Sign
action_start Overwriting action = []
action_start (Erasing height synchronized whole) Leave = []
action_start (Erasing height synchronized whole) _ = erasing_start synchronized whole

-- and what it ends with there
abbrev pub action_end : Layout → Action → List Sign
action_end Overwriting action = []
action_end (Erasing height synchronized whole) Leave = []
action_end (Erasing height synchronized whole) _ = erasing_end synchronized

-- the buffer holds the beginning of a frame with this action
abbrev pub BeginsFrame : Renderer → Layout → Action → LineWriter → Type 0
BeginsFrame r layout action out = out.bytes ≡ spelling (opening_of r ++ action_start layout action)

-- what messages begin with, if there are any, follows the bytes of old
abbrev pub StartsMessages : Layout → Bool → LineWriter → LineWriter → Type 0
StartsMessages layout some old new = AppendsSigns old (messages_start layout some) new

-- what follows this many lines in a redraw that erases rows, if this many are on screen
abbrev pub redraw_end : ℕ → ℕ → ℕ → List Sign
redraw_end height widths count =
    let rest = left_over height widths count in
    erased_rows rest ++ EraseBelow ∷ cursor_up (count + rest)

-- if this many lines, over lines on screen of these widths, end the bytes of old after what comes before them, those of new end with the whole
-- redraw of the lines
abbrev pub FinishesRedraw : Layout → LineWriter → List ℕ → ℕ → LineWriter → Type 0
FinishesRedraw layout old widths count new =
    (before : List ℕ) (lines : List Line)
    → length lines ≡ count → old.bytes ≡ before ++ (spelling (lines_start layout) ++ lines_bytes layout (covered layout widths) lines)
    → new.bytes ≡ before ++ spelling (redraw layout widths lines)

-- what a frame leaves: what its body has left, and the tracker that is kept then
abbrev pub state_by : Drawn → Option FrameTracker → List PathRow → FrameState
state_by drawn tracker rows =
    record { widths = drawn.widths.items; midpoint = drawn.midpoint; tracker = tracker_by drawn.action tracker rows; rows_erased = drawn.rows_erased }

-- the renderer that keeps what a body has left
abbrev pub keeping : Drawn → Renderer → Renderer
keeping drawn r = record r { widths = drawn.widths.items; midpoint = drawn.midpoint; rows_erased = drawn.rows_erased }

-- the renderer that keeps what the frame of a tick has left, and the rows and how many messages had been pushed
abbrev pub remembering : Composed → List PathRow → ℕ → Renderer → Renderer
remembering frame rows pushed r = record (keeping frame.drawn r) {
  last_rows = Some rows;
  origin_widths = frame.origin_widths.items;
  seen = Some pushed;
  timer = frame.timer;
  ended = ended_after frame.drawn.action r.ended;
}

-- it is what the frame of an input leaves, and does
pub record Leaves (r : Renderer) (input : Input) (drawn : Drawn) (tracker : Option FrameTracker) : Type 0 where
  pub state : state_by drawn tracker (latest_rows (remember r input).last_rows) ≡ state_at r input
  pub action : drawn.action ≡ action_at r input

-- what the frame of a tick leaves, with the widths of the latest origins
pub record LeavesTick (r : Renderer) (input : Input) (frame : Composed) (tracker : Option FrameTracker) : Type 0 where
  pub drawn : Leaves r input frame.drawn tracker
  pub origin_widths : frame.origin_widths.items ≡ (remember r input).origin_widths
  pub timer : frame.timer ≡ (remember r input).timer

-- the lines that it has kept of its rows are among these bytes
abbrev pub KeepsLines : Renderer → List PathRow → LineWriter → Drawn → Type 0
KeepsLines r rows out drawn = AreAmong r.options r.midpoint rows out.bytes drawn.lines.items

-- a tick that leaves the lines on screen because the rows stay saw the rows that were remembered
abbrev pub RowsStay : Renderer → List PathRow → Composed → Type 0
RowsStay r rows frame = frame.rows_stay ≡ true → r.last_rows ≡ Some rows

-- what such a frame leaves if its tracker was `old` and is `new`
abbrev pub LeftBy : Renderer → Option FrameTracker → Input → Option FrameTracker → Drawn → Type 0
LeftBy r old input new drawn = Leaves (tracked r old) input drawn new

-- the same of the frame of a tick
abbrev pub LeftByTick : Renderer → Option FrameTracker → ℕ → Bool → List PathRow × List Message × ℕ → Option FrameTracker → Composed → Type 0
LeftByTick r old at show seen new frame = LeavesTick (tracked r old) (tick_seeing at show seen) frame new

-- a resize to these columns and rows
abbrev pub resize_to : ℕ → Bool → ℕ × ℕ → Input
resize_to at show dimensions = Resize at show dimensions.0 dimensions.1

-- what the rows of a scene say of their times
abbrev pub times_in : Scene → Times
times_in scene = times_at scene.timer.now scene.at

-- the renderer of a scene, with its options, its timer and this tracker
abbrev pub renderer_in : Scene → Option Tracker → Renderer
renderer_in scene tracker = record scene.past.now { options = scene.options; timer = scene.timer.now; tracker = tracker }

-- the rows of a scene, drawn at its moment
abbrev pub drawing_in : Scene → Option Tracker → Drawing
drawing_in scene tracker = drawing_of (renderer_in scene tracker) scene.at (rows_of scene.rows.now)

-- the body of a frame with this action in a scene
abbrev pub body_in : Action → Scene → Option Tracker → Body
body_in action scene tracker = body_of action (drawing_in scene tracker) (ending_of scene.past.now)

-- its signs, over the lines that are left on screen
abbrev pub body_signs_in : Action → Scene → Option Tracker → List ℕ → List Sign
body_signs_in action scene tracker left = body_signs (layout_of scene.options) left (body_in action scene tracker)

-- it is what an action in a scene leaves, over lines on screen of these widths, and `tracker` is what is kept then
pub record LeavesInScene (does : Action) (scene : Scene) (before : Option Tracker) (widths : List ℕ) (drawn : Drawn) (tracker : Option FrameTracker) : Type 0 where
  pub state : state_by drawn tracker (rows_of scene.rows.now) ≡ state_after does (record scene.past.now { tracker = before }) (drawing_in scene before) widths
  pub action : drawn.action ≡ does

-- the same of an action over lines that are left on screen, if the tracker was `old` and is `new`
abbrev pub LeftByAction : Action → Scene → Option FrameTracker → List ℕ → Option FrameTracker → Drawn → Type 0
LeftByAction does scene old left new drawn = LeavesInScene does scene (kept_of old) left drawn new

-- what an action in a scene writes over such lines follows the bytes of old
abbrev pub AppendsBody : Action → Scene → Option FrameTracker → List ℕ → LineWriter → LineWriter → Type 0
AppendsBody does scene tracker left old new = AppendsSigns old (body_signs_in does scene (kept_of tracker) left) new

-- a redraw of the rows of a scene over such lines follows the bytes of old
abbrev pub AppendsRedraw : Scene → Option FrameTracker → List ℕ → LineWriter → LineWriter → Type 0
AppendsRedraw scene tracker left old new =
    AppendsSigns old (redraw (layout_of scene.options) left (drawing_in scene (kept_of tracker)).lines) new

-- rows that are drawn by a tracker, if there is one, each with the throughput that it gives
abbrev pub shown_rows : Options → Option Tracker → List Row → List DrawnRow
shown_rows options tracker rows = shown_by tracker (filtered options.level_filter (rows_of rows))

-- and their lines
abbrev pub shown_lines : Options → ℕ → Times → Option Tracker → List Row → List Line
shown_lines options midpoint times tracker rows = row_lines options midpoint times (shown_rows options tracker rows)

-- these rows have been drawn besides those of old, aligned to this midpoint
pub record AddsRows (options : Options) (aligned : ℕ) (times : Times) (tracker : Option Tracker) (rows : List Row) (old new : Drawn) : Type 0 where
  pub widths : new.widths.items ≡ old.widths.items ++ widths_of (shown_lines options aligned times tracker rows)
  pub midpoint : new.midpoint ≡ max old.midpoint (greatest_midpoint options.defensive (shown_rows options tracker rows))
  pub rows_erased : new.rows_erased ≡ old.rows_erased
  pub action : new.action ≡ old.action

-- these lines are among the bytes, of these rows of a scene
abbrev pub KeepsOf : Scene → List Row → LineWriter → Vec RowLine → Type 0
KeepsOf scene rows out lines = AreAmong scene.options scene.past.now.midpoint (rows_of rows) out.bytes lines.items

-- and of all its rows
abbrev pub KeepsLinesOf : Scene → LineWriter → Drawn → Type 0
KeepsLinesOf scene out drawn = KeepsOf scene scene.rows.now out drawn.lines

-- more bytes follow those of old
pub record Extends (old new : LineWriter) : Type 0 where
  pub more : List ℕ
  pub bytes : new.bytes ≡ old.bytes ++ more

-- these lines are those of the rows before a scene
abbrev pub HasKept : Scene → KeptLines → Type 0
HasKept scene kept = AreKept kept (drawn_in scene.before)

-- the bytes of the line of a row of a scene, with what follows it over one of this width
abbrev pub bytes_in : Scene → DrawnRow → ℕ → List ℕ
bytes_in scene drawn width =
    let line = untimed_line scene.options scene.past.now.midpoint drawn in
    own_bytes scene.options line ++ row_end (width - columns_of line)

-- the line of a row of a scene, over one of this width, follows the bytes of old
abbrev pub WritesLine : Scene → DrawnRow → ℕ → LineWriter → LineWriter → Type 0
WritesLine scene drawn width old new = new.bytes ≡ old.bytes ++ bytes_in scene drawn width

-- it is so large
abbrev pub IsSizeIn : Scene → DrawnRow → LineSize → Type 0
IsSizeIn scene drawn size = IsSizeOf scene.options scene.past.now.midpoint drawn size

-- the rows of a scene have been drawn besides those of old
abbrev pub DrawsRows : Scene → Option FrameTracker → List Row → Drawn → Drawn → Type 0
DrawsRows scene tracker rows old new = AddsRows scene.options scene.past.now.midpoint (times_in scene) (ahead_of tracker) rows old new

-- the rows of these that fit
abbrev pub fitting_shown : Options → Option Tracker → List Row → List DrawnRow
fitting_shown options tracker rows = fitting options (shown_rows options tracker rows)

-- their lines, and the line that says how many are hidden
abbrev pub fitting_lines : Options → ℕ → Times → Option Tracker → List Row → List Line
fitting_lines options midpoint times tracker rows =
    row_lines options midpoint times (fitting_shown options tracker rows)
    ++ more_lines options (length (shown_rows options tracker rows) - length (fitting_shown options tracker rows))

-- the rows that fit have been drawn besides those of old, aligned to this midpoint
pub record AddsFitting (options : Options) (aligned : ℕ) (times : Times) (tracker : Option Tracker) (rows : List Row) (old new : Drawn) : Type 0 where
  pub widths : new.widths.items ≡ old.widths.items ++ widths_of (fitting_lines options aligned times tracker rows)
  pub midpoint : new.midpoint ≡ max old.midpoint (greatest_midpoint options.defensive (fitting_shown options tracker rows))
  pub rows_erased : new.rows_erased ≡ old.rows_erased
  pub action : new.action ≡ old.action

-- those of a scene that fit have been drawn besides those of old
abbrev pub DrawsFitting : Scene → Option FrameTracker → Drawn → Drawn → Type 0
DrawsFitting scene tracker old new = AddsFitting scene.options scene.past.now.midpoint (times_in scene) (ahead_of tracker) scene.rows.now old new

-- their lines and the line that says how many are hidden, over lines on screen of these widths, follow the bytes of old
abbrev pub WritesFitting : Scene → Option FrameTracker → List ℕ → LineWriter → LineWriter → Type 0
WritesFitting scene tracker widths old new =
    let layout = layout_of scene.options in
    let lines = fitting_lines scene.options scene.past.now.midpoint (times_in scene) (ahead_of tracker) scene.rows.now in
    AppendsOver layout old (covered layout widths) lines new

-- how many of the rows are drawn if all that pass the filter are
abbrev pub count_of : Option (ℕ × ℕ) → List Row → ℕ
count_of levels rows = length (filtered levels (rows_of rows))

-- the rows are split after the last one that is drawn and fits
pub record SplitsFitting (layout : Layout) (levels : Option (ℕ × ℕ)) (rows shown others : List Row) : Type 0 where
  pub whole : rows ≡ shown ++ others
  pub count : count_of levels shown ≡ fitting_count layout (count_of levels rows)

-- the rows of a scene are split so
abbrev pub SplitsScene : Scene → List Row → List Row → Type 0
SplitsScene scene shown others = SplitsFitting (layout_of scene.options) scene.options.level_filter scene.rows.now shown others

-- all rows are drawn, or the first ones
abbrev pub DrawsFirst : Options → List Row → Type 0
DrawsFirst options others = options.prefer_running ≡ true → count_of options.level_filter others ≡ 0

-- rows that are chosen by quotas
abbrev pub chosen_rows : Options → Quotas → Option Tracker → List Row → List DrawnRow
chosen_rows options quotas tracker rows = chosen quotas (ranks_of (filtered options.level_filter (rows_of rows))) (shown_rows options tracker rows)

-- and their lines
abbrev pub chosen_lines : Options → ℕ → Times → Quotas → Option Tracker → List Row → List Line
chosen_lines options midpoint times quotas tracker rows = row_lines options midpoint times (chosen_rows options quotas tracker rows)

-- the quotas of these rows if this many are drawn
abbrev pub quotas_for : Option (ℕ × ℕ) → List Row → ℕ → Quotas
quotas_for levels rows most = all_reserved (quotas_of most) (ranks_of (filtered levels (rows_of rows)))

-- rows chosen by quotas have been drawn besides those of old, aligned to this midpoint
pub record AddsChosen (options : Options) (aligned : ℕ) (times : Times) (quotas : Quotas) (tracker : Option Tracker) (rows : List Row) (old new : Drawn) : Type 0 where
  pub widths : new.widths.items ≡ old.widths.items ++ widths_of (chosen_lines options aligned times quotas tracker rows)
  pub midpoint : new.midpoint ≡ max old.midpoint (greatest_midpoint options.defensive (chosen_rows options quotas tracker rows))
  pub rows_erased : new.rows_erased ≡ old.rows_erased
  pub action : new.action ≡ old.action

-- as many of a scene have been drawn besides those of old
abbrev pub DrawsChosen : Scene → ℕ → Option FrameTracker → Drawn → Drawn → Type 0
DrawsChosen scene most tracker old new =
    AddsChosen scene.options scene.past.now.midpoint (times_in scene) (quotas_for scene.options.level_filter scene.rows.now most) (ahead_of tracker) scene.rows.now old new

-- their lines follow the bytes of old
abbrev pub WritesChosen : Scene → ℕ → Option FrameTracker → LineWriter → LineWriter → Type 0
WritesChosen scene most tracker old new =
    let quotas = quotas_for scene.options.level_filter scene.rows.now most in
    let lines = chosen_lines scene.options scene.past.now.midpoint (times_in scene) quotas (ahead_of tracker) scene.rows.now in
    AppendsOver (layout_of scene.options) old [] lines new

-- the line of a row of a scene, with what is measured of it
abbrev pub measured_line : Scene → Row → Measured → Line
measured_line scene row measured =
    as_drawn scene.options (row_line scene.options.defensive scene.options.terminal_dimensions.0 scene.options.bar_columns scene.past.now.midpoint (row_of row, measured.throughput) (times_at measured.timer.now measured.at (row_of row)))

-- it follows the bytes of old
abbrev pub WritesRow : Scene → Row → Measured → LineWriter → LineWriter → Type 0
WritesRow scene row measured old new = AppendsOver (layout_of scene.options) old [] (measured_line scene row measured ∷ []) new

-- the row has been drawn besides those of old
pub record DrawsRowOf (scene : Scene) (row : Row) (measured : Measured) (old new : Drawn) : Type 0 where
  pub widths : new.widths.items ≡ old.widths.items ++ columns_of (measured_line scene row measured) ∷ []
  pub midpoint : new.midpoint ≡ max old.midpoint (midpoint_of scene.options.defensive (row_of row, measured.throughput))
  pub rows_erased : new.rows_erased ≡ old.rows_erased
  pub action : new.action ≡ old.action

-- the line that says how many of these rows are hidden
abbrev pub more_of : Options → List Row → List Line
more_of options rows = more_lines options (count_of options.level_filter rows)

-- it follows the bytes of old
abbrev pub WritesMore : Options → List Row → LineWriter → LineWriter → Type 0
WritesMore options rows old new = AppendsOver (layout_of options) old [] (more_of options rows) new

-- the line that says that n rows are hidden, as it is drawn
abbrev pub drawn_more_line : Options → ℕ → Line
drawn_more_line options n = as_drawn options (more_line options.ascii n)

-- it follows the bytes of old
abbrev pub WritesCount : Options → ℕ → LineWriter → LineWriter → Type 0
WritesCount options n old new = AppendsOver (layout_of options) old [] (drawn_more_line options n ∷ []) new

-- these rows have been counted besides those of old
pub record CountsRows (options : Options) (rows : List Row) (old new : Drawn) : Type 0 where
  pub widths : new.widths.items ≡ old.widths.items ++ widths_of (more_of options rows)
  pub midpoint : new.midpoint ≡ old.midpoint
  pub rows_erased : new.rows_erased ≡ old.rows_erased
  pub action : new.action ≡ old.action
