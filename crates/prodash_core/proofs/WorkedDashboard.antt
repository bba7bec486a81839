-- The dashboard, computed on some rows.
use Prim.Native.Char.{Char, code}
use Rattle.std.proofs.Common.{◌≡◌, true, false, refl}
use Rattle.prodash_core.specs.declared.render.tui.event.Answer.{Answer}
use Rattle.prodash_core.specs.declared.render.tui.event.Answer.TheVariants.{Redraw, Skip, Stop}
use Rattle.prodash_core.specs.declared.render.tui.event.Event.{Event}
use Rattle.prodash_core.specs.declared.render.tui.event.Event.TheVariants.{Input, SetInterruptMode}
use Rattle.prodash_core.specs.declared.render.tui.event.Interrupt.TheVariants as interrupts
use Rattle.prodash_core.specs.declared.render.tui.event.KeyCode.TheVariants.{Char as Character}
use Rattle.prodash_core.specs.declared.render.tui.state.State.{State}
use Rattle.prodash_core.specs.declared.render.tui.state.InterruptMode.TheVariants.{Instantly, Deferred}
use Rattle.prodash_core.specs.Dashboard.{handle}

abbrev pressed : Char → Event
pressed c = Input (record { code = Character (code c); control = false; release = false })

abbrev released : Char → Event
released c = Input (record { code = Character (code c); control = false; release = true })

abbrev with_control : Char → Event
with_control c = Input (record { code = Character (code c); control = true; release = false })

abbrev state_after : State → Event → State
state_after s e = (handle s e).0

abbrev answer_of : State → Event → Answer
answer_of s e = (handle s e).1

-- an offset stops at both ends
pub message_offset_at_0 : (s : State)
    → (state_after (record s { message_offset = 0 }) (pressed "K")).message_offset ≡ 0
message_offset_at_0 s = refl

pub redraws_at_0 : (s : State)
    → answer_of (record s { message_offset = 0 }) (pressed "K") ≡ Redraw
redraws_at_0 s = refl

pub task_offset_at_its_end : (s : State)
    → (state_after (record s { task_offset = 65530 }) (pressed "d")).task_offset ≡ 65535
task_offset_at_its_end s = refl

pub task_offset_ten_up : (s : State)
    → (state_after (record s { task_offset = 65530 }) (pressed "u")).task_offset ≡ 65520
task_offset_ten_up s = refl

-- requests are deferred; then there is one; then the mode is set to deferred once more
abbrev instantly : State → State
instantly s = record s { interrupt_mode = Instantly }

abbrev deferred : State → State
deferred s = state_after (instantly s) (SetInterruptMode interrupts.Deferred)

abbrev requested : State → State
requested s = state_after (deferred s) (pressed "q")

pub request_is_noted : (s : State)
    → handle (deferred s) (pressed "q") ≡ (record s { interrupt_mode = Deferred true }, Redraw)
request_is_noted s = refl

pub note_is_kept : (s : State)
    → handle (requested s) (SetInterruptMode interrupts.Deferred)
    ≡ (record s { interrupt_mode = Deferred true }, Redraw)
note_is_kept s = refl

abbrev deferred_again : State → State
deferred_again s = state_after (requested s) (SetInterruptMode interrupts.Deferred)

pub note_stops : (s : State)
    → answer_of (deferred_again s) (SetInterruptMode interrupts.Instantly) ≡ Stop
note_stops s = refl

pub no_note_goes_on : (s : State)
    → handle (deferred s) (SetInterruptMode interrupts.Instantly)
    ≡ (record s { interrupt_mode = Instantly }, Redraw)
no_note_goes_on s = refl

pub stops_at_once : (s : State) → answer_of (instantly s) (pressed "q") ≡ Stop
stops_at_once s = refl

-- `c` without control does nothing; with control another key is as without
pub plain_c : (s : State) → handle s (pressed "c") ≡ (s, Skip)
plain_c s = refl

pub control_c : (s : State) → answer_of (instantly s) (with_control "c") ≡ Stop
control_c s = refl

pub control_j : (s : State) → handle s (with_control "j") ≡ handle s (pressed "j")
control_j s = refl

pub bracket : (s : State)
    → (state_after (record s { hide_info = true }) (pressed "[")).hide_info ≡ false
bracket s = refl

-- a key that is released does nothing
pub released_q : (s : State) → handle s (released "q") ≡ (s, Skip)
released_q s = refl
