-- Whole runs: the replies to a list of events, and what they write.
use Rattle.std.specs.Prelude.{◌≡◌, ℕ, suc, Bool, true, false, ◌<◌, List, [], ◌∷◌, ◌++◌, length, take, drop, slice_get, Option, Some, None, if◌then◌else◌, Result, Ok, Err, IfOk}
use Rattle.std.specs.Global.{Vec}
use Rattle.prodash_base.specs.declared.refusal.Refusal.{Refusal}
use Rattle.prodash_base.specs.declared.refusal.Refusal.TheVariants as refusals
use Rattle.prodash_base.specs.declared.messages.Message.{Message}
use Rattle.prodash_base.specs.declared.messages.MessageLevel.{MessageLevel}
use Rattle.prodash_base.specs.Rings.{ring_of}
use Rattle.prodash_line.specs.declared.render.line.draw.input.Answer.{Answer}
use Rattle.prodash_line.specs.declared.render.line.draw.input.Answer.TheVariants as answers
use Rattle.prodash_line.specs.Renderings.{Rendering, after_result, RendersEach, BreaksExactly, FlushesFrame, WritesAttempts, attempts_of, drawn_frames, FitsPage, ShowsFrames}
use Rattle.prodash_line.specs.Screens.{ScreenState}
use Rattle.prodash_line.specs.ErasedPages.{ErasesPagesOf, ErasesInTurn}
use Rattle.prodash_line.specs.SafeFrames.{DrawsSafelyOf}
use Rattle.prodash_line.specs.Page.{Canvas}
use Rattle.prodash_line.specs.DrawnLines.{erases_rows}
use Rattle.prodash_core.specs.declared.tree.slot.Slot.{Slot}
use Rattle.prodash_core.specs.Trees.{Tree, Effect, OnTree, OnRenderer, effect_of, item_at, message_by}
use Rattle.prodash_core.specs.Sessions.{SessionState, new_session, tree_after, is_memory, Steps}
use Rattle.prodash_core.specs.declared.tree.options.SessionOptions.{SessionOptions}
use Rattle.prodash_core.specs.declared.tree.event.Event.{Event}
use Rattle.prodash_core.specs.declared.tree.event.Event.TheVariants as events
use Rattle.prodash_core.specs.declared.tree.event.Reply.{Reply}
use Rattle.prodash_core.specs.declared.tree.event.Reply.TheVariants as replies

-- what the renderer returned, of the reply to a frame
abbrev pub result_of : Reply → Result Answer Refusal
result_of replies.Drawn = Ok answers.Drawn
result_of replies.Ended = Ok answers.Ended
result_of (replies.Refused refusal) = Err refusal
result_of _ = Err refusals.Memory

-- the session after an event with this effect and reply
abbrev pub next_by : Effect → SessionState → Reply → SessionState
next_by (OnTree memory outcome) w reply =
    if is_memory reply then w else record w { tree = tree_after w.tree outcome }
next_by (OnRenderer input) w reply =
    record w { renderer = after_result w.renderer (input w.renderer.seen) (result_of reply) }

-- the session after an event with this reply
abbrev pub next_session : SessionState → Event → Reply → SessionState
next_session w e reply = next_by (effect_of w.tree e) w reply

-- the session after a list of events with these replies
abbrev pub session_after : SessionState → List Event → List Reply → SessionState
session_after w [] rs = w
session_after w (e ∷ es) [] = w
session_after w (e ∷ es) (r ∷ rs) = session_after (next_session w e r) es rs

-- one step after another, each from the session that those before it leave
abbrev pub Run : SessionState → ScreenState → List Event → List Reply → ScreenState → Type 0
Run w s [] [] s' = s' ≡ s
Run w s (e ∷ es) (r ∷ rs) s' =
    (s₁ : ScreenState) × Steps w s e r (next_session w e r) s₁
    × Run (next_session w e r) s₁ es rs s'
Run w s [] (r ∷ rs) s' = ⊥
Run w s (e ∷ es) [] s' = ⊥

-- The step of the event at an index, with its reply: it leads from the session after the events
-- before it to the session after it too, and from the screen before it to the screen after it.
pub record StepsAt (w : SessionState) (es : List Event) (rs : List Reply) (j : ℕ)
    (s s' : ScreenState) : Type 0 where
  pub event : Event
  pub reply : Reply
  pub asked : slice_get es j ≡ Some event
  pub replied : slice_get rs j ≡ Some reply
  pub before : ScreenState
  pub after : ScreenState
  pub earlier : Run w s (take j es) (take j rs) before
  pub step : Steps (session_after w (take j es) (take j rs)) before event reply
      (session_after w (take (suc j) es) (take (suc j) rs)) after
  pub later : Run (session_after w (take (suc j) es) (take (suc j) rs)) after (drop (suc j) es)
      (drop (suc j) rs) s'

-- the step of each event
abbrev pub StepsAtEach : SessionOptions → List Event → List Reply → ScreenState → ScreenState
    → Type 0
StepsAtEach options es rs s s' =
    (j : ℕ) → j < length es → StepsAt (new_session options) es rs j s s'

-- the events that didn't run out of memory
abbrev pub events_with_memory : List Event → List Reply → List Event
events_with_memory [] rs = []
events_with_memory (e ∷ es) [] = []
events_with_memory (e ∷ es) (r ∷ rs) =
    if is_memory r then events_with_memory es rs else e ∷ events_with_memory es rs

-- their replies
abbrev pub replies_with_memory : List Reply → List Reply
replies_with_memory [] = []
replies_with_memory (r ∷ rs) = if is_memory r then replies_with_memory rs else r ∷ replies_with_memory rs

-- the run of the events that didn't run out of memory, by themselves, which ends in the same session
pub record RunsWithMemory (options : SessionOptions) (es : List Event) (rs : List Reply)
    (s s' : ScreenState) : Type 0 where
  pub run : Run (new_session options) s (events_with_memory es rs) (replies_with_memory rs) s'
  pub session : session_after (new_session options) (events_with_memory es rs) (replies_with_memory rs)
      ≡ session_after (new_session options) es rs

-- the same for the slot of its item
abbrev pub sent_from : Tree → Option Slot → ℕ → MessageLevel → List ℕ → List Message
sent_from t None at level text = []
sent_from t (Some slot) at level text = message_by t slot at level text ∷ []

-- the message that an event sends, if its item is valid
abbrev pub sent_by : Tree → Event → List Message
sent_by t (events.Message n at level text) = sent_from t (item_at t n) at level text
sent_by t _ = []

-- the test of the reply `Done`
abbrev pub is_done : Reply → Bool
is_done replies.Done = true
is_done _ = false

-- all accepted messages, in order
abbrev pub accepted_messages : SessionState → List Event → List Reply → List Message
accepted_messages w [] rs = []
accepted_messages w (e ∷ es) [] = []
accepted_messages w (e ∷ es) (r ∷ rs) =
    (if is_done r then sent_by w.tree e else []) ++ accepted_messages (next_session w e r) es rs

-- after each prefix of the events, the ring is that of all messages so far
abbrev pub KeepsMessages : SessionOptions → List Event → List Reply → Type 0
KeepsMessages options es rs =
    (j : ℕ) → (session_after (new_session options) (take j es) (take j rs)).tree.ring
    ≡ ring_of options.root.message_buffer_capacity
    (accepted_messages (new_session options) (take j es) (take j rs))

-- what a frame with this effect and reply renders; nothing for another event
abbrev pub rendering_by : Effect → SessionState → Reply → List Rendering
rendering_by (OnTree memory outcome) w reply = []
rendering_by (OnRenderer input) w reply =
    record { input = input w.renderer.seen; result = result_of reply } ∷ []

-- the inputs of the frames among the events, each with what the renderer returned
abbrev pub renderings_from : SessionState → List Event → List Reply → List Rendering
renderings_from w [] rs = []
renderings_from w (e ∷ es) [] = []
renderings_from w (e ∷ es) (r ∷ rs) =
    rendering_by (effect_of w.tree e) w r ++ renderings_from (next_session w e r) es rs

-- the same for a new session
abbrev pub renderings_of : SessionOptions → List Event → List Reply → List Rendering
renderings_of options es rs = renderings_from (new_session options) es rs

-- `Broken` is the reply to a frame exactly if it was the reply to one before, or if the frame has
-- bytes and the screen is broken after it
abbrev pub EachBreaksExactly : SessionOptions → List Event → List Reply → ScreenState
    → ScreenState → Type 0
EachBreaksExactly options es rs s s' =
    RendersEach BreaksExactly (new_session options).renderer s (renderings_of options es rs) s'

-- each accepted frame with bytes is flushed
abbrev pub EachFlushes : SessionOptions → List Event → List Reply → ScreenState → ScreenState
    → Type 0
EachFlushes options es rs s s' =
    RendersEach FlushesFrame (new_session options).renderer s (renderings_of options es rs) s'

-- the bytes that the screen takes are those of the frames, each whole up to the first that breaks
-- the screen
abbrev pub WritesFrames : SessionOptions → List Event → List Reply → ScreenState → ScreenState
    → Type 0
WritesFrames options es rs s s' =
    (bytes : List ℕ) × (s'.bytes ≡ s.bytes ++ bytes)
    × WritesAttempts [] (attempts_of (new_session options).renderer (renderings_of options es rs)) bytes

-- on a page that everything fits, the frames are shown
abbrev pub ShowsOnPages : SessionOptions → List Event → List Reply → ScreenState → ScreenState
    → Type 0
ShowsOnPages options es rs s s' =
    (page : Canvas) (above : List (List ℕ))
    → FitsPage (new_session options).renderer (renderings_of options es rs) s'.broken above page
    → ShowsFrames s.bytes s'.bytes
    (drawn_frames (new_session options).renderer (renderings_of options es rs)) above page

-- if rows are erased, every page of the terminal's size shows each frame, whatever it showed before, and however many columns its terminal gives
-- each character
abbrev pub EachErases : SessionOptions → List Event → List Reply → ScreenState → ScreenState → Type 0
EachErases options es rs s s' =
    RendersEach ErasesPagesOf (new_session options).renderer s (renderings_of options es rs) s'

-- and frames that follow one another show in turn on such a page, whatever it shows before the first of them, if they are for one size
abbrev pub ErasesOnPages : SessionOptions → List Event → List Reply → ScreenState → ScreenState
    → Type 0
ErasesOnPages options es rs s s' =
    erases_rows options.draw ≡ true
    → ErasesInTurn (new_session options).renderer (renderings_of options es rs) s s'

-- no line of a defensive renderer's frames has an unsafe character
abbrev pub EachDrawsSafely : SessionOptions → List Event → List Reply → ScreenState → ScreenState
    → Type 0
EachDrawsSafely options es rs s s' =
    RendersEach DrawsSafelyOf (new_session options).renderer s (renderings_of options es rs) s'

-- a screen that isn't broken has flushed all that it took, if it had before
abbrev pub StaysFlushed : ScreenState → ScreenState → Type 0
StaysFlushed s s' = s.flushed ≡ s.bytes → s'.broken ≡ false → s'.flushed ≡ s'.bytes

-- A run of a new session, from its first screen to its last.
pub record Ran (options : SessionOptions) (es : List Event) (rs : List Reply) (s s' : ScreenState)
    : Type 0 where
  -- each reply is that of a step from the session and the screen that those before it leave
  pub steps : Run (new_session options) s es rs s'
  -- the same, for the event at any place of the list
  pub each : StepsAtEach options es rs s s'
  -- the events that didn't run out of memory, by themselves, have the same run
  pub with_memory : RunsWithMemory options es rs s s'
  -- after each prefix of the events, the messages that are kept are the latest of all so far
  pub messages : KeepsMessages options es rs
  -- `Broken` is the reply to a frame exactly if the screen breaks, then or before
  pub breaks : EachBreaksExactly options es rs s s'
  -- each accepted frame with bytes is flushed
  pub flushes : EachFlushes options es rs s s'
  -- the bytes are those of the frames, whole up to the first that breaks the screen
  pub bytes : WritesFrames options es rs s s'
  -- a page that everything fits shows after each frame the rows above as they were, then the
  -- messages printed so far, then the lines on screen, then blank rows
  pub page : ShowsOnPages options es rs s s'
  -- if rows are erased, every page of the terminal's size shows each frame, whatever it showed
  -- before, and however many columns its terminal gives each character
  pub erases : EachErases options es rs s s'
  -- and from each frame on, whatever such a page shows then, it shows the rows above as they were,
  -- then the messages printed since, then the lines drawn last, then blank rows, until a resize
  -- sets another size
  pub erased : ErasesOnPages options es rs s s'
  -- no line of a defensive renderer's frames has an unsafe character
  pub safe : EachDrawsSafely options es rs s s'
  -- a screen that isn't broken afterwards has flushed all that it took, if it had before
  pub flushed : StaysFlushed s s'

-- what a run did, if it returned the replies
abbrev pub IfRan : SessionOptions → List Event → Result (Vec Reply) Refusal → ScreenState
    → ScreenState → Type 0
IfRan options es result s s' = IfOk result (λ replies. Ran options es replies.items s s')
