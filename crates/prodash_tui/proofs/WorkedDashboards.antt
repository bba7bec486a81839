-- Where a dashboard draws its parts, computed.
use Rattle.std.proofs.Common.{◌≡◌, ℕ, Bool, true, false, [], ◌∷◌, refl}
use Rattle.std.specs.Prelude.{None, String, string_bytes}
use Rattle.std.specs.Global.{Global, Vec}
use Rattle.prodash_base.specs.Rows.{rows_of}
use Rattle.prodash_base.specs.declared.messages.Message.{Message}
use Rattle.prodash_core.specs.declared.render.tui.event.Line.{Line}
use Rattle.prodash_core.specs.declared.render.tui.event.Rect.{Rect}
use Rattle.prodash_core.specs.declared.render.tui.state.State.{State}
use Rattle.prodash_core.specs.declared.render.tui.state.InterruptMode.TheVariants.{Instantly}
use Rattle.prodash_tui.specs.declared.draw.input.Input.{Input}
use Rattle.prodash_tui.specs.Dashboards.{dashboard, headline_bound, state_after, with_window}
use Rattle.prodash_tui.specs.Grids.{Sheet}
use Rattle.prodash_tui.specs.Headlines.{headline_text, with_headline}
use Rattle.prodash_tui.specs.MessagePanes.{with_message_pane}

abbrev rect : ℕ → ℕ → ℕ → ℕ → Rect
rect x y width height = record { x = x; y = y; width = width; height = height }

-- a dashboard that hides its information, and its messages or not
abbrev state : String Global → Vec Line → Bool → State
state title information hide_messages = record {
  title = title;
  task_offset = 0;
  message_offset = 7;
  hide_messages = hide_messages;
  messages_fullscreen = false;
  hide_info = true;
  maximize_info = false;
  window_size = None;
  information = information;
  interrupt_mode = Instantly;
}

-- the window with its headline, in 80 columns and 24 rows
abbrev headed : String Global → Input → Sheet → Sheet
headed title input g =
    with_headline (headline_bound (rect 0 0 80 24) (string_bytes title))
    (headline_text Instantly input.nanoseconds_per_frame input.time.now (rows_of input.rows.now))
    (with_window (rect 0 0 80 24) (string_bytes title) g)

-- the tasks are inside the border if all else is hidden
pub tasks_alone : (tasks : Rect → Sheet → Sheet) (title : String Global) (lines : Vec Line) (input : Input) (g : Sheet)
    → dashboard tasks (state title lines true) input (rect 0 0 80 24) g ≡ tasks (rect 1 1 78 22) (headed title input g)
tasks_alone tasks title lines input g = refl

-- below them are the messages, whose overflow is in the border
pub with_two_messages : (tasks : Rect → Sheet → Sheet) (title : String Global) (lines : Vec Line) (a b : Message) (input : Input) (g : Sheet)
    → input.messages.now ≡ a ∷ b ∷ []
    → dashboard tasks (state title lines false) input (rect 0 0 80 24) g
    ≡ with_message_pane (a ∷ b ∷ []) (rect 1 20 78 3) (rect 0 23 80 1) 7 (tasks (rect 1 1 78 19) (headed title input g))
with_two_messages tasks title lines a b input g e = rw e refl

-- a narrow window has its border and its title alone
pub narrow : (tasks : Rect → Sheet → Sheet) (title : String Global) (lines : Vec Line) (input : Input) (g : Sheet)
    → dashboard tasks (state title lines true) input (rect 0 0 3 24) g ≡ with_window (rect 0 0 3 24) (string_bytes title) g
narrow tasks title lines input g = refl

-- and nothing of it is scrolled
pub narrow_state : (title : String Global) (lines : Vec Line) (input : Input) → state_after (state title lines false) input (rect 0 0 3 24) ≡ state title lines false
narrow_state title lines input = refl
