-- A request to interrupt that is deferred waits, whatever else happens.
use Rattle.std.proofs.Common.{◌≡◌, refl, ap, ◌∙◌, true≢false, Bool, true, false, not, ◌&&◌, ◌||◌, ◌==◌, cond, if◌then◌else◌, List, [], ◌∷◌, Option, Some, None, find, option_map}
use Rattle.std.proofs.Math.Bool.{or_assoc}
use Rattle.std.specs.List.{list_any, AllByRecursion}
use Rattle.std.specs.Option.{option_map_or}
use Prim.Native.Char.{Char, code}
use Rattle.prodash_core.specs.declared.render.tui.event.Answer.TheVariants.{Redraw, Stop}
use Rattle.prodash_core.specs.declared.render.tui.event.Event.{Event}
use Rattle.prodash_core.specs.declared.render.tui.event.Event.TheVariants.{Tick, Input, SetWindowSize, SetTitle, SetInformation, SetInterruptMode}
use Rattle.prodash_core.specs.declared.render.tui.event.Interrupt.TheVariants as interrupts
use Rattle.prodash_core.specs.declared.render.tui.event.KeyCode.{KeyCode}
use Rattle.prodash_core.specs.declared.render.tui.event.KeyCode.TheVariants.{Char as Character, Esc, Other}
use Rattle.prodash_core.specs.declared.render.tui.state.State.{State}
use Rattle.prodash_core.specs.declared.render.tui.state.InterruptMode.TheVariants.{Deferred}
use Rattle.prodash_core.specs.Dashboard.{redraw, skip, interrupt, key_effects, key_effect, interrupts_by, handle, state_after, is_request, sets_instantly}

-- an effect that leaves the mode as it was
abbrev KeepsMode : (State → State) → Type 0
KeepsMode effect = (s : State) → (effect s).interrupt_mode ≡ s.interrupt_mode

abbrev AllKeepMode : Option (State → State) → Type 0
AllKeepMode None = Unit {0}
AllKeepMode (Some effect) = KeepsMode effect

abbrev Row : Type 0
Row = Char × (State → State)

effects_keep : AllByRecursion (λ row. KeepsMode row.1) key_effects
effects_keep = (
  λ s. refl,
  (
    λ s. refl,
    (
      λ s. refl,
      (
        λ s. refl,
        (
          λ s. refl,
          (
            λ s. refl,
            (
              λ s. refl,
              (λ s. refl, (λ s. refl, (λ s. refl, (λ s. refl, (λ s. refl, tt))))),
            ),
          ),
        ),
      ),
    ),
  ),
)

chosen_keeps : (b : Bool) (row : Row) (rest : Option Row)
    → KeepsMode row.1 → AllKeepMode (option_map (λ r. r.1) rest)
    → AllKeepMode (option_map (λ r. r.1) (cond b (Some row) rest))
chosen_keeps true row rest keeps others = keeps
chosen_keeps false row rest keeps others = others

found_keeps : (test : Row → Bool) (rows : List Row)
    → AllByRecursion (λ row. KeepsMode row.1) rows
    → AllKeepMode (option_map (λ r. r.1) (find test rows))
found_keeps test [] keep = tt
found_keeps test (row ∷ rows) keep =
    chosen_keeps (test row) row (find test rows) keep.0 (found_keeps test rows keep.1)

effect_keeps : (key : KeyCode) → AllKeepMode (key_effect key)
effect_keeps (Character c) = found_keeps (λ row. code row.0 == c) key_effects effects_keep
effect_keeps Esc = tt
effect_keeps Other = tt

-- a key that does no more than this leaves the mode
typed_keeps : (effect : Option (State → State)) (s : State) → AllKeepMode effect
    → (option_map_or (λ f. redraw (f s)) effect (skip s)).0.interrupt_mode ≡ s.interrupt_mode
typed_keeps None s keeps = refl
typed_keeps (Some effect) s keeps = keeps s

or_false : (a : Bool) → a ≡ (a || false)
or_false true = refl
or_false false = refl

or_true : (a : Bool) → true ≡ (a || true)
or_true true = refl
or_true false = refl

interrupt_notes : (s : State) (r : Bool) → s.interrupt_mode ≡ Deferred r
    → (interrupt s).0.interrupt_mode ≡ Deferred true
interrupt_notes s r mode = rw mode refl

key_mode : (release interrupts : Bool) (effect : Option (State → State)) (s : State) (r : Bool)
    → s.interrupt_mode ≡ Deferred r → AllKeepMode effect
    → (if release then skip s
    else if interrupts then interrupt s
    else option_map_or (λ f. redraw (f s)) effect (skip s)).0.interrupt_mode
    ≡ Deferred (r || (not release && interrupts))
key_mode true interrupts effect s r mode keeps = mode ∙ ap Deferred (or_false r)
key_mode false true effect s r mode keeps =
    interrupt_notes s r mode ∙ ap Deferred (or_true r)
key_mode false false effect s r mode keeps =
    typed_keeps effect s keeps ∙ (mode ∙ ap Deferred (or_false r))

again : (s : State) (r : Bool) → s.interrupt_mode ≡ Deferred r
    → (handle s (SetInterruptMode interrupts.Deferred)).0.interrupt_mode ≡ Deferred r
again s r mode = rw mode refl

-- the mode after one event
event_mode : (s : State) (r : Bool) (e : Event)
    → s.interrupt_mode ≡ Deferred r → sets_instantly e ≡ false
    → (handle s e).0.interrupt_mode ≡ Deferred (r || is_request e)
event_mode s r Tick mode other = mode ∙ ap Deferred (or_false r)
event_mode s r (Input key) mode other =
    key_mode key.release (interrupts_by key.code key.control) (key_effect key.code) s r mode
    (effect_keeps key.code)
event_mode s r (SetWindowSize size) mode other = mode ∙ ap Deferred (or_false r)
event_mode s r (SetTitle title) mode other = mode ∙ ap Deferred (or_false r)
event_mode s r (SetInformation information) mode other = mode ∙ ap Deferred (or_false r)
event_mode s r (SetInterruptMode interrupts.Instantly) mode other = absurd (true≢false other)
event_mode s r (SetInterruptMode interrupts.Deferred) mode other =
    again s r mode ∙ ap Deferred (or_false r)

first_false : (a b : Bool) → (a || b) ≡ false → a ≡ false
first_false true b e = e
first_false false b e = refl

second_false : (a b : Bool) → (a || b) ≡ false → b ≡ false
second_false true b e = absurd (true≢false e)
second_false false b e = e

-- the mode after events
pub mode_after : (s : State) (r : Bool) (events : List Event)
    → s.interrupt_mode ≡ Deferred r → list_any sets_instantly events ≡ false
    → (state_after s events).interrupt_mode ≡ Deferred (r || list_any is_request events)
mode_after s r [] mode none = mode ∙ ap Deferred (or_false r)
mode_after s r (e ∷ events) mode none =
    mode_after (handle s e).0 (r || is_request e) events
    (event_mode s r e mode (first_false (sets_instantly e) (list_any sets_instantly events) none))
    (second_false (sets_instantly e) (list_any sets_instantly events) none)
    ∙ ap Deferred (or_assoc r (is_request e) (list_any is_request events))

stop_if : (s : State) (r : Bool) → s.interrupt_mode ≡ Deferred r
    → (handle s (SetInterruptMode interrupts.Instantly)).1 ≡ (if r then Stop else Redraw)
stop_if s true mode = rw mode refl
stop_if s false mode = rw mode refl

-- the answer when the mode is set to be instantly after them
pub answer_after : (s : State) (r : Bool) (events : List Event)
    → s.interrupt_mode ≡ Deferred r → list_any sets_instantly events ≡ false
    → (handle (state_after s events) (SetInterruptMode interrupts.Instantly)).1
    ≡ (if r || list_any is_request events then Stop else Redraw)
answer_after s r events mode none =
    stop_if (state_after s events) (r || list_any is_request events)
    (mode_after s r events mode none)
