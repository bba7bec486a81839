-- The dashboard: what an event leaves of its state, and the answer to it.
use Prim.Native.Char.{Char, code}
use Rattle.std.specs.Prelude.{◌≡◌, ℕ, ◌+◌, ◌-◌, min, Bool, true, false, not, ◌&&◌, ◌||◌, ◌==◌, if◌then◌else◌, List, [], ◌∷◌, Option, Some, None, find, fold, String}
use Rattle.std.specs.List.{list_any}
use Rattle.std.specs.Option.{option_map, option_map_or}
use Rattle.std.specs.Global.{Global, Vec}
use Rattle.prodash_core.specs.declared.render.tui.event.Answer.{Answer}
use Rattle.prodash_core.specs.declared.render.tui.event.Answer.TheVariants.{Redraw, Skip, Stop}
use Rattle.prodash_core.specs.declared.render.tui.event.Event.{Event}
use Rattle.prodash_core.specs.declared.render.tui.event.Event.TheVariants.{Tick, Input, SetWindowSize, SetTitle, SetInformation, SetInterruptMode}
use Rattle.prodash_core.specs.declared.render.tui.event.Interrupt.{Interrupt}
use Rattle.prodash_core.specs.declared.render.tui.event.Interrupt.TheVariants as interrupts
use Rattle.prodash_core.specs.declared.render.tui.event.Key.{Key}
use Rattle.prodash_core.specs.declared.render.tui.event.KeyCode.{KeyCode}
use Rattle.prodash_core.specs.declared.render.tui.event.KeyCode.TheVariants.{Char as Character, Esc, Other}
use Rattle.prodash_core.specs.declared.render.tui.event.Line.{Line}
use Rattle.prodash_core.specs.declared.render.tui.options.Options.{Options}
use Rattle.prodash_core.specs.declared.render.tui.state.State.{State}
use Rattle.prodash_core.specs.declared.render.tui.state.InterruptMode.{InterruptMode}
use Rattle.prodash_core.specs.declared.render.tui.state.InterruptMode.TheVariants.{Instantly, Deferred}

-- the defaults, with this title
abbrev pub default_options : String Global → Options
default_options title = record {
  title = title;
  nanoseconds_per_frame = 100000000;
  throughput = false;
  recompute_column_width_every_nth_frame = None;
  window_size = None;
  stop_if_progress_missing = true;
}

-- a new dashboard with this title and information: all is off
abbrev pub new_state : String Global → Vec Line → State
new_state title information = record {
  title = title;
  task_offset = 0;
  message_offset = 0;
  hide_messages = false;
  messages_fullscreen = false;
  hide_info = false;
  maximize_info = false;
  window_size = None;
  information = information;
  interrupt_mode = Instantly;
}

-- the state as it is, to be drawn again
abbrev pub redraw : State → State × Answer
redraw s = (s, Redraw)

-- the state as it is, and nothing is to be done
abbrev pub skip : State → State × Answer
skip s = (s, Skip)

-- the state as it is, and the dashboard is to stop
abbrev pub stop : State → State × Answer
stop s = (s, Stop)

-- an offset n rows further down, at most 65535
abbrev pub down : ℕ → ℕ → ℕ
down n offset = min (offset + n) 65535

-- an offset n rows further up, at least 0
abbrev pub up : ℕ → ℕ → ℕ
up n offset = offset - n

-- the messages scrolled
abbrev pub scroll_messages : (ℕ → ℕ) → State → State
scroll_messages move s = record s { message_offset = move s.message_offset }

-- the tasks scrolled
abbrev pub scroll_tasks : (ℕ → ℕ) → State → State
scroll_tasks move s = record s { task_offset = move s.task_offset }

-- what the key of each character does
abbrev pub key_effects : List (Char × (State → State))
key_effects =
    ("`", λ s. record s { hide_messages = not s.hide_messages })
    ∷ ("~", λ s. record s { messages_fullscreen = not s.messages_fullscreen })
    ∷ ("[", λ s. record s { hide_info = not s.hide_info })
    ∷ ("{", λ s. record s { maximize_info = not s.maximize_info })
    ∷ ("J", scroll_messages (down 1))
    ∷ ("D", scroll_messages (down 10))
    ∷ ("K", scroll_messages (up 1))
    ∷ ("U", scroll_messages (up 10))
    ∷ ("j", scroll_tasks (down 1))
    ∷ ("d", scroll_tasks (down 10))
    ∷ ("k", scroll_tasks (up 1))
    ∷ ("u", scroll_tasks (up 10))
    ∷ []

-- what a key does, if it does something
abbrev pub key_effect : KeyCode → Option (State → State)
key_effect (Character c) = option_map (λ row. row.1) (find (λ row. code row.0 == c) key_effects)
key_effect Esc = None
key_effect Other = None

-- the keys that interrupt: Esc, q, and with control c and [
abbrev pub interrupts_by : KeyCode → Bool → Bool
interrupts_by Esc control = true
interrupts_by (Character c) control =
    (c == code "q") || (control && ((c == code "c") || (c == code "[")))
interrupts_by Other control = false

-- whether requests to interrupt are deferred
abbrev pub is_deferred : InterruptMode → Bool
is_deferred Instantly = false
is_deferred (Deferred requested) = true

-- whether there was a request since they are deferred
abbrev pub is_requested : InterruptMode → Bool
is_requested Instantly = false
is_requested (Deferred requested) = requested

-- a request to interrupt: it is noted if requests are deferred, else it stops
abbrev pub interrupt : State → State × Answer
interrupt s =
    if is_deferred s.interrupt_mode then redraw (record s { interrupt_mode = Deferred true })
    else stop s

-- another mode: a request that was noted stops as soon as the mode is no longer to be deferred;
-- until then the note is kept
abbrev pub set_interrupt_mode : State → Interrupt → State × Answer
set_interrupt_mode s interrupts.Instantly =
    if is_requested s.interrupt_mode then stop s
    else redraw (record s { interrupt_mode = Instantly })
set_interrupt_mode s interrupts.Deferred =
    redraw (record s { interrupt_mode = Deferred (is_requested s.interrupt_mode) })

-- a key; the cases are tried from the first
abbrev pub press : State → Key → State × Answer
press s key =
    if key.release then skip s
    else if interrupts_by key.code key.control then interrupt s
    else option_map_or (λ effect. redraw (effect s)) (key_effect key.code) (skip s)

-- an event: the state after it, and the answer
abbrev pub handle : State → Event → State × Answer
handle s Tick = redraw s
handle s (Input key) = press s key
handle s (SetWindowSize size) = redraw (record s { window_size = Some size })
handle s (SetTitle title) = redraw (record s { title = title })
handle s (SetInformation information) = redraw (record s { information = information })
handle s (SetInterruptMode interrupt) = set_interrupt_mode s interrupt

-- the state after events, one after another
abbrev pub state_after : State → List Event → State
state_after s events = fold (λ before event. (handle before event).0) s events

-- whether an event is a request to interrupt
abbrev pub is_request : Event → Bool
is_request (Input key) = not key.release && interrupts_by key.code key.control
is_request _ = false

-- whether an event sets the mode to be instantly
abbrev pub sets_instantly : Event → Bool
sets_instantly (SetInterruptMode interrupts.Instantly) = true
sets_instantly _ = false

-- whether a request waits after events, if one waited before them
abbrev pub waits_after : Bool → List Event → Bool
waits_after requested events = requested || list_any is_request events

-- If requests are deferred, with a note whether one waits, and no event sets the mode to be
-- instantly, they still are after the events, and the note says whether there was one.
abbrev pub NotesRequests : State → Bool → List Event → Type 0
NotesRequests s requested events = s.interrupt_mode ≡ Deferred requested
    → list_any sets_instantly events ≡ false
    → (state_after s events).interrupt_mode ≡ Deferred (waits_after requested events)

-- If the mode is then set to be instantly, the dashboard stops exactly if there was one.
abbrev pub StopsIfRequested : State → Bool → List Event → Type 0
StopsIfRequested s requested events = s.interrupt_mode ≡ Deferred requested
    → list_any sets_instantly events ≡ false
    → (handle (state_after s events) (SetInterruptMode interrupts.Instantly)).1
    ≡ (if waits_after requested events then Stop else Redraw)
