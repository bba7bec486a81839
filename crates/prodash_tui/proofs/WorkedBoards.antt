-- A dashboard on a terminal, computed: its frames, its events, and its end.
use Rattle.std.proofs.Common.{◌≡◌, ℕ, true, false, List, [], ◌∷◌, ◌++◌, refl}
use Rattle.std.specs.Prelude.{None, Some, Option, String, string_bytes}
use Rattle.std.specs.Global.{Global, Vec}
use Prim.Native.Char.{code}
use Rattle.prodash_core.specs.declared.render.tui.event.Answer.TheVariants.{Redraw, Stop}
use Rattle.prodash_core.specs.declared.render.tui.event.Event.{Event}
use Rattle.prodash_core.specs.declared.render.tui.event.Event.TheVariants.{Tick, Input}
use Rattle.prodash_core.specs.declared.render.tui.event.KeyCode.TheVariants.{Char as Character}
use Rattle.prodash_core.specs.declared.render.tui.event.Line.{Line}
use Rattle.prodash_core.specs.declared.render.tui.event.Rect.{Rect}
use Rattle.prodash_core.specs.declared.render.tui.state.State.{State}
use Rattle.prodash_core.specs.declared.render.tui.state.InterruptMode.TheVariants.{Instantly}
use Rattle.prodash_tui.specs.declared.cell.Cell.{Cell}
use Rattle.prodash_tui.specs.declared.dashboard.contents.Contents.{Contents}
use Rattle.prodash_tui.specs.declared.dashboard.phase.Phase.TheVariants.{Running, Stopped}
use Rattle.prodash_tui.specs.declared.sign.Sign.{Sign}
use Rattle.prodash_tui.specs.declared.sign.Sign.TheVariants.{Char, EnterAlternate, EraseScreen, HideCursor, LeaveAlternate, MoveTo, NoWrap, SetStyle, ShowCursor, Wrap}
use Rattle.prodash_tui.specs.Cells.{blank_cells, cell_of, plain}
use Rattle.prodash_tui.specs.Dashboards.{with_window}
use Rattle.prodash_tui.specs.Displays.{Display, after_signs}
use Rattle.prodash_tui.specs.Grids.{Sheet, blank_sheet}
use Rattle.prodash_tui.specs.Panes.{bold}
use Rattle.prodash_tui.specs.Boards.{Board, closed, closing, handled, is_measured, is_running, next_grid, resized, shown, signs_of}

-- a state that hides messages and information, and fills this part of the terminal
abbrev state : String Global → Vec Line → Option Rect → State
state title lines size = record {
  title = title;
  task_offset = 0;
  message_offset = 0;
  hide_messages = true;
  messages_fullscreen = false;
  hide_info = true;
  maximize_info = false;
  window_size = size;
  information = lines;
  interrupt_mode = Instantly;
}

-- a dashboard on a terminal of three columns and two rows that has drawn no frame
abbrev board : String Global → Vec Line → Option Rect → Board
board title lines size = record {
  state = state title lines size;
  width = 3;
  height = 2;
  screen = None;
  tree_columns = 0;
  frames = 0;
  nanoseconds_per_frame = 100;
  every_nth_frame = None;
  tracker = None;
  phase = Running;
}

abbrev row : ℕ → Cell → ℕ → List Cell
row left middle right = cell_of plain left ∷ middle ∷ cell_of plain right ∷ []

-- a small window, with as much of the title as fits
abbrev window : ℕ → Sheet
window letter = record { width = 3; height = 2; rows = row 0x250C (cell_of bold letter) 0x2510 ∷ row 0x2514 (cell_of plain 0x2500) 0x2518 ∷ [] }

-- the lower row of the border
abbrev lower : List Sign
lower = MoveTo 1 0 ∷ Char 0x2514 ∷ Char 0x2500 ∷ Char 0x2518 ∷ []

-- a frame of the window, written whole
abbrev whole : List Sign
whole = SetStyle plain ∷ EraseScreen ∷ MoveTo 0 0 ∷ SetStyle plain ∷ Char 0x250C ∷ SetStyle bold ∷ Char (code "H") ∷ SetStyle plain ∷ Char 0x2510 ∷ lower

-- ---- frames

-- the next grid is that of the dashboard on the whole terminal
pub on_the_terminal : (title : String Global) (lines : Vec Line) (c : Contents)
    → next_grid (board title lines None) c ≡ with_window (record { x = 0; y = 0; width = 3; height = 2 }) (string_bytes title) (blank_sheet 3 2)
on_the_terminal title lines c = refl

-- or in the window size that was set
pub in_the_window_size : (title : String Global) (lines : Vec Line) (c : Contents) (size : Rect) → size.width ≡ 2
    → next_grid (board title lines (Some size)) c ≡ with_window size (string_bytes title) (blank_sheet 3 2)
in_the_window_size title lines c size e = rw e refl

-- the first frame enters the alternate screen, and is written whole
pub first : (title : String Global) (lines : Vec Line) → signs_of (board title lines None) (window (code "H")) ≡ EnterAlternate ∷ HideCursor ∷ NoWrap ∷ whole
first title lines = refl

-- the next one doesn't enter it again, and is written by what has changed
pub second : (title : String Global) (lines : Vec Line)
    → signs_of (shown (window (code "H")) (board title lines None)) (window (code "O")) ≡ MoveTo 0 1 ∷ SetStyle bold ∷ Char (code "O") ∷ []
second title lines = refl

-- after another size, be it the same one, it is written whole
pub resized_frame : (title : String Global) (lines : Vec Line)
    → signs_of (resized 3 2 (shown (window (code "O")) (board title lines None))) (window (code "H")) ≡ whole
resized_frame title lines = refl

-- a size that comes before the first frame enters no screen
pub resized_first : (title : String Global) (lines : Vec Line) → (resized 80 24 (board title lines None)).screen ≡ None
resized_first title lines = refl

-- ---- the width of the tree

-- with an interval of three frames the tree is measured in the first one and in every third
pub measured : is_measured (Some 3) 1 20 ∷ is_measured (Some 3) 2 20 ∷ is_measured (Some 3) 3 20 ∷ is_measured (Some 3) 4 20 ∷ is_measured (Some 3) 6 20 ∷ []
    ≡ true ∷ false ∷ true ∷ false ∷ true ∷ []
measured = refl

-- without one in each, and while it has no columns
pub measured_else : is_measured None 2 20 ∷ is_measured (Some 0) 2 20 ∷ is_measured (Some 3) 2 0 ∷ [] ≡ true ∷ true ∷ true ∷ []
measured_else = refl

-- ---- events, and the end

abbrev q : Event
q = Input (record { code = Character (code "q"); control = false; release = false })

-- `q` stops it, and then every event is answered by that
pub stops : (title : String Global) (lines : Vec Line) → handled (board title lines None) q ≡ (record (board title lines None) { phase = Stopped }, Stop)
stops title lines = refl

pub has_stopped : (title : String Global) (lines : Vec Line)
    → handled (record (board title lines None) { phase = Stopped }) Tick ≡ (record (board title lines None) { phase = Stopped }, Stop)
has_stopped title lines = refl

pub goes_on : (title : String Global) (lines : Vec Line) → handled (board title lines None) Tick ≡ (board title lines None, Redraw)
goes_on title lines = refl

-- at the end the alternate screen is left if it was entered
pub leaves : (title : String Global) (lines : Vec Line)
    → closing (shown (window (code "H")) (board title lines None)).screen ≡ SetStyle plain ∷ EraseScreen ∷ LeaveAlternate ∷ Wrap ∷ ShowCursor ∷ []
leaves title lines = refl

pub leaves_none : (title : String Global) (lines : Vec Line) → closing (board title lines None).screen ≡ []
leaves_none title lines = refl

pub is_over : (title : String Global) (lines : Vec Line) → is_running (closed (board title lines None)) ≡ false
is_over title lines = refl

-- ---- what a display shows

-- a display with other text, which the frame covers, and which is back at the end
abbrev display : Display
display = record {
  grid = record { width = 3; height = 2; rows = blank_cells 3 ∷ row 0x78 (cell_of plain 0x79) 0x7A ∷ [] };
  cursor = record { row = 1; column = 2; style = plain };
  main = None;
  shows_cursor = true;
  wraps = true;
}

-- each character has one column
abbrev one_column : ℕ → ℕ
one_column c = 1

abbrev entered : List Sign
entered = EnterAlternate ∷ HideCursor ∷ NoWrap ∷ whole

pub covered : (after_signs one_column entered display).grid ≡ window (code "H")
covered = refl

pub back_again : after_signs one_column (entered ++ SetStyle plain ∷ EraseScreen ∷ LeaveAlternate ∷ Wrap ∷ ShowCursor ∷ []) display ≡ display
back_again = refl
