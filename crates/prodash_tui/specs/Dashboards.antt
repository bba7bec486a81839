-- A dashboard: its window, the headline, and the panes.
use Rattle.std.specs.Prelude.{ℕ, ◌-◌, Bool, nat_lt, ◌||◌, List, [], length, Option, Some, None, string_bytes, if◌then◌else◌}
use Rattle.prodash_base.specs.declared.messages.Message.{Message}
use Rattle.prodash_base.specs.Rows.{PathRow, rows_of}
use Rattle.prodash_core.specs.declared.render.tui.event.Line.{Line}
use Rattle.prodash_core.specs.declared.render.tui.event.Rect.{Rect}
use Rattle.prodash_core.specs.declared.render.tui.state.State.{State}
use Rattle.prodash_tui.specs.declared.draw.bounds.Bounds.{Bounds}
use Rattle.prodash_tui.specs.declared.draw.input.Input.{Input}
use Rattle.prodash_tui.specs.declared.draw.progress.lines.Scroll.{Scroll}
use Rattle.prodash_line.specs.CellRows.{char_columns}
use Rattle.prodash_tui.specs.Cells.{plain}
use Rattle.prodash_tui.specs.Displays.{Display}
use Rattle.prodash_tui.specs.Grids.{Sheet, with_border, with_text}
use Rattle.prodash_tui.specs.Headlines.{headline_text, with_headline}
use Rattle.prodash_tui.specs.InformationPanes.{with_information}
use Rattle.prodash_tui.specs.MessagePanes.{skipped_messages, with_message_pane}
use Rattle.prodash_tui.specs.PaneBounds.{compute_info_bound, compute_pane_bounds}
use Rattle.prodash_tui.specs.Panes.{bold}
use Rattle.prodash_tui.specs.ProgressPanes.{scrolled, with_progress_pane}
use Rattle.prodash_tui.specs.Rates.{Rates}
use Rattle.prodash_tui.specs.Rects.{bottom_of, inner_of, offset_x}
use Rattle.prodash_tui.specs.Screens.{Fits}
use Rattle.prodash_tui.specs.Texts.{block_width}

-- the information, unless it is hidden
abbrev pub shown_information : State → List Line
shown_information s = if s.hide_info then [] else s.information.items

-- how many of so many messages there are to show: none if they are hidden
abbrev pub messages_to_show : State → ℕ → ℕ
messages_to_show s messages = if s.hide_messages then 0 else messages

-- where the window, the tasks, so many messages and the information are
abbrev pub bounds_of : State → ℕ → Rect → Bounds
bounds_of s messages area =
    let beside = compute_info_bound area (shown_information s) s.maximize_info in
    let inside = compute_pane_bounds (messages_to_show s messages) (inner_of beside.0) s.messages_fullscreen in
    record { window = beside.0; tasks = inside.0; messages = inside.1; information = beside.1 }

-- a rectangle without its last column
abbrev pub narrower : Rect → Rect
narrower area = record area { width = area.width - 1 }

-- the window: a border with the title in it
abbrev pub with_window : Rect → List ℕ → Sheet → Sheet
with_window area title g = with_text (narrower (offset_x area 1)) bold title (with_border area plain g)

-- where the headline is: behind the title, in the window's first row
abbrev pub headline_bound : Rect → List ℕ → Rect
headline_bound area title = offset_x (offset_x (narrower area) (block_width title)) 2

-- the messages, if they are shown
abbrev pub with_messages_in : Option Rect → Rect → ℕ → List Message → Sheet → Sheet
with_messages_in None window offset messages g = g
with_messages_in (Some area) window offset messages g = with_message_pane messages area (bottom_of window) offset g

-- the information, if it is shown
abbrev pub with_information_in : Option Rect → List Line → Sheet → Sheet
with_information_in None lines g = g
with_information_in (Some area) lines g = with_information lines area g

-- how many messages are skipped then; as many as before if they aren't shown
abbrev pub offset_in : Option Rect → ℕ → List Message → ℕ
offset_in None offset messages = offset
offset_in (Some area) offset messages = skipped_messages offset area messages

-- the dashboard inside its window: the headline, the tasks, which are drawn in this way, and the other panes
abbrev pub with_panes : (Rect → Sheet → Sheet) → State → Input → Bounds → Sheet → Sheet
with_panes with_tasks s input b g =
    let title = string_bytes s.title in
    let text = headline_text s.interrupt_mode input.nanoseconds_per_frame input.time.now (rows_of input.rows.now) in
    with_information_in b.information s.information.items
    (with_messages_in b.messages b.window s.message_offset input.messages.now
    (with_tasks b.tasks (with_headline (headline_bound b.window title) text g)))

-- has it less than four rows or columns?
abbrev pub is_small : Rect → Bool
is_small area = nat_lt area.width 4 || nat_lt area.height 4

-- a dashboard in a rectangle, whose tasks are drawn in this way: of a small window the border and the title alone
abbrev pub dashboard : (Rect → Sheet → Sheet) → State → Input → Rect → Sheet → Sheet
dashboard with_tasks s input area g =
    let b = bounds_of s (length input.messages.now) area in
    let window = with_window b.window (string_bytes s.title) g in
    if is_small b.window then window else with_panes with_tasks s input b window

-- how far the tasks are scrolled before a frame, if so many of them are skipped
abbrev pub scroll_of : Input → ℕ → Scroll
scroll_of input offset = record { offset = offset; tree_columns = input.tree_columns }

-- the tasks in a rectangle, with these throughputs
abbrev pub with_task_pane : Rates → Input → ℕ → Rect → Sheet → Sheet
with_task_pane rates input offset area g = with_progress_pane (rows_of input.rows.now) rates input.at (scroll_of input offset) area g

-- how far they are scrolled then
abbrev pub scroll_after : Input → ℕ → Rect → Scroll
scroll_after input offset area = scrolled (rows_of input.rows.now) (scroll_of input offset) area

-- a dashboard with its tasks, and these throughputs of them
abbrev pub whole_dashboard : Rates → State → Input → Rect → Sheet → Sheet
whole_dashboard rates s input area g = dashboard (with_task_pane rates input s.task_offset) s input area g

-- a state with so many rows and messages skipped
abbrev pub with_offsets : ℕ → ℕ → State → State
with_offsets tasks messages s = record s { task_offset = tasks; message_offset = messages }

-- the state after the panes are drawn in these bounds
abbrev pub panes_after : State → Input → Bounds → State
panes_after s input b =
    record s {
      task_offset = (scroll_after input s.task_offset b.tasks).offset;
      message_offset = offset_in b.messages s.message_offset input.messages.now;
    }

-- the state after a dashboard is drawn
abbrev pub state_after : State → Input → Rect → State
state_after s input area =
    let b = bounds_of s (length input.messages.now) area in if is_small b.window then s else panes_after s input b

-- how many columns the tree of the tasks has in these bounds
abbrev pub tree_in : State → Input → Bounds → ℕ
tree_in s input b = (scroll_after input s.task_offset b.tasks).tree_columns

-- how many columns it has after a dashboard is drawn
abbrev pub tree_after : State → Input → Rect → ℕ
tree_after s input area =
    let b = bounds_of s (length input.messages.now) area in if is_small b.window then input.tree_columns else tree_in s input b

-- a way to draw in a rectangle after which a grid still fits a display: its rows are proper, and it has the display's size
abbrev pub KeepsFit : (Rect → Sheet → Sheet) → Type 0
KeepsFit draw = (d : Display) (area : Rect) (g : Sheet) → Fits char_columns d g → Fits char_columns d (draw area g)

-- so is a dashboard, if so is the way in which its tasks are drawn
abbrev pub DashboardsFit : Type 0
DashboardsFit = (with_tasks : Rect → Sheet → Sheet) → KeepsFit with_tasks → (s : State) (input : Input) → KeepsFit (λ area g. dashboard with_tasks s input area g)

-- so is a dashboard with its tasks
abbrev pub WholeDashboardsFit : Type 0
WholeDashboardsFit = (rates : Rates) (s : State) (input : Input) → KeepsFit (λ area g. whole_dashboard rates s input area g)

-- so is a progress pane
abbrev pub ProgressPanesFit : Type 0
ProgressPanesFit = (rows : List PathRow) (rates : Rates) (at : ℕ) (s : Scroll) → KeepsFit (λ area g. with_progress_pane rows rates at s area g)

-- so is a messages pane
abbrev pub MessagePanesFit : Type 0
MessagePanesFit = (messages : List Message) (overflow : Rect) (offset : ℕ) → KeepsFit (λ area g. with_message_pane messages area overflow offset g)
