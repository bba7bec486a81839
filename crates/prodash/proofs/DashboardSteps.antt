-- A step of a dashboard's engine that hands on to its parts.
use Rattle.std.proofs.Common.{◌≡◌, ℕ, Bool, true, false, cond, ◌&&◌, nat_eq, List, [], ◌∷◌, ◌++◌, length, Option, Some, None, Result, Ok, Err, refl, sym, ap, subst, ◌∙◌, append-nil, true≢false}
use Rattle.std.specs.Global.{Vec}
use Rattle.std.specs.Option.{option_map}
use Rattle.prodash_base.specs.Rows.{PathRow}
use Rattle.prodash_base.specs.declared.messages.Message.{Message}
use Rattle.prodash_base.specs.declared.refusal.Refusal.{Refusal}
use Rattle.prodash_base.specs.declared.refusal.Refusal.TheVariants as refusals
use Rattle.prodash_line.specs.Renderer.{Seen}
use Rattle.prodash_line.specs.Screens.{ScreenState, WritesFrame, BreaksDuring}
use Rattle.prodash_core.specs.Dashboard.{handle}
use Rattle.prodash_core.specs.declared.render.tui.event.Answer.{Answer}
use Rattle.prodash_core.specs.declared.render.tui.event.Answer.TheVariants.{Redraw, Skip, Stop}
use Rattle.prodash_core.specs.declared.render.tui.event.Event.{Event}
use Rattle.prodash_core.specs.declared.render.tui.event.Line.{Line}
use Rattle.prodash_core.specs.declared.render.tui.options.Options.{Options}
use Rattle.prodash_core.specs.declared.render.tui.state.State.{State}
use Rattle.prodash_core.proofs.AscendingRows.{ascending_list}
use Rattle.prodash_tui.specs.declared.dashboard.contents.Contents.{Contents}
use Rattle.prodash_tui.specs.declared.dashboard.phase.Phase.{Phase}
use Rattle.prodash_tui.specs.declared.dashboard.phase.Phase.TheVariants.{Running, Stopped, Closed}
use Rattle.prodash_tui.specs.Boards.{Board, after_frame, closed, closing, first_state, frame_signs, handled, handled_running, has_closed, is_closed, is_running, new_board, phase_after, resized, runs}
use Rattle.prodash_tui.specs.Screens.{Buffers, blank_buffers}
use Rattle.prodash_tui.specs.Signs.{spelling}
use Rattle.prodash.specs.declared.render.tui.engine.event.EngineAnswer.{EngineAnswer}
use Rattle.prodash.specs.declared.render.tui.engine.event.EngineAnswer.TheVariants.{Drawn, Skipped, Ended}
use Rattle.prodash.specs.declared.render.tui.engine.event.EngineEvent.{EngineEvent}
use Rattle.prodash.specs.declared.render.tui.engine.event.EngineEvent.TheVariants.{Handle, Resize, Quit}
use Rattle.prodash.specs.Engines.{Looks}
use Rattle.prodash.specs.DashboardEngines.{AreContents, DashboardEngine, Does, EngineSees, EngineSteps, MayDo, Outcome, Shows, ShowsSeen, Stays, StepsIf, draw, leave, moment_of, new_engine, skip, told}
use Rattle.prodash.specs.plumbing.DashboardSteps.{EngineDoes, EngineHasLeft, EngineLeaves, EngineShows, IsFrame, IsLeft, Outputs, sized}

-- ---- a new engine

module _ {S W : Type 0} where
  -- an engine with the parts of a new one
  pub has_new_parts : (e : DashboardEngine S W) (options : Options) (information : Vec Line) (size : ℕ × ℕ) (screen : S) (weak : W)
      → e.board ≡ new_board options (first_state options information) size.0 size.1 → e.stops_without_rows ≡ options.stop_if_progress_missing
      → e.screen ≡ screen → e.weak ≡ weak → e ≡ new_engine options information size screen weak
  has_new_parts e options information size screen weak board stops is_screen is_weak =
      λ i. record { board = board i; stops_without_rows = stops i; screen = is_screen i; weak = is_weak i }

-- ---- a size that a dashboard is to take

-- it runs as before
pub sized_runs : (size : Option (ℕ × ℕ)) (b : Board) → is_running (sized size b) ≡ is_running b
sized_runs None b = refl
sized_runs (Some size) b = refl

-- it was closed as before
pub sized_closed : (size : Option (ℕ × ℕ)) (b : Board) → is_closed (sized size b) ≡ is_closed b
sized_closed None b = refl
sized_closed (Some size) b = refl

closing_blank : (width height : ℕ) (screen : Option Buffers) → closing (option_map (λ b. blank_buffers width height) screen) ≡ closing screen
closing_blank width height None = refl
closing_blank width height (Some b) = refl

closing_sized : (size : Option (ℕ × ℕ)) (b : Board) → closing (sized size b).screen ≡ closing b.screen
closing_sized None b = refl
closing_sized (Some size) b = closing_blank size.0 size.1 b.screen

closed_sized : (size : Option (ℕ × ℕ)) (b : Board) → closed (sized size b) ≡ sized size (closed b)
closed_sized None b = refl
closed_sized (Some size) b = refl

blank_twice : (width height : ℕ) (f : Buffers → Buffers) (screen : Option Buffers)
    → option_map (λ b. blank_buffers width height) (option_map f screen) ≡ option_map (λ b. blank_buffers width height) screen
blank_twice width height f None = refl
blank_twice width height f (Some b) = refl

-- another size takes its place
pub resized_sized : (width height : ℕ) (size : Option (ℕ × ℕ)) (b : Board) → resized width height (sized size b) ≡ resized width height b
resized_sized width height None b = refl
resized_sized width height (Some size) b =
    ap (λ (screen : Option Buffers). record b { width = width; height = height; screen = screen })
    (blank_twice width height (λ x. blank_buffers size.0 size.1) b.screen)

either_sized : (running : Bool) (f : Board → Board) (x y : Board × Answer)
    → ◌≡◌ {A = Board × Answer} (cond running (f x.0, x.1) (f y.0, y.1)) (f (cond running x y).0, (cond running x y).1)
either_sized true f x y = refl
either_sized false f x y = refl

abbrev sized_pair : Option (ℕ × ℕ) → Board × Answer → Board × Answer
sized_pair size t = (sized size t.0, t.1)

abbrev with_answer : Answer → Board → Board × Answer
with_answer answer b = (b, answer)

-- an event leaves it as it is
pub handled_sized : (size : Option (ℕ × ℕ)) (b : Board) (event : Event) → handled (sized size b) event ≡ (sized size (handled b event).0, (handled b event).1)
handled_sized None b event = refl
handled_sized (Some size) b event = either_sized (is_running b) (resized size.0 size.1) (handled_running b (handle b.state event)) (b, Stop)

-- ---- what is written

-- the end, of a dashboard that was to take a size
left_bytes : (size : Option (ℕ × ℕ)) (b : Board) (bytes : List ℕ) → bytes ≡ spelling (closing b.screen) → bytes ≡ spelling (closing (sized size b).screen)
left_bytes size b bytes spells = spells ∙ ap spelling (sym (closing_sized size b))

left_board : (size : Option (ℕ × ℕ)) (b b' : Board) → b' ≡ closed b → sized size b' ≡ closed (sized size b)
left_board size b b' is = ap (sized size) is ∙ sym (closed_sized size b)

pub left_whole : (size : Option (ℕ × ℕ)) (b b' b₁ : Board) (bytes : List ℕ) (s s' : ScreenState)
    → b₁ ≡ sized size b → b' ≡ closed b → bytes ≡ spelling (closing b.screen) → WritesFrame bytes s s'
    → Outputs (IsLeft b₁) b₁ s (Ok Ended) (sized size b') s'
left_whole size b b' b₁ bytes s s' view is spells written =
    subst (λ x. Outputs (IsLeft x) x s (Ok Ended) (sized size b') s') (sym view)
    (leave (sized size b), refl, (refl, left_board size b b' is, subst (λ x. WritesFrame x s s') (left_bytes size b bytes spells) written))

pub left_broken : (size : Option (ℕ × ℕ)) (b b' b₁ : Board) (bytes : List ℕ) (s s' : ScreenState) (result : Result EngineAnswer Refusal)
    → result ≡ Err refusals.Broken → b₁ ≡ sized size b → b' ≡ closed b → bytes ≡ spelling (closing b.screen) → BreaksDuring bytes s s'
    → Outputs (IsLeft b₁) b₁ s result (sized size b') s'
left_broken size b b' b₁ bytes s s' result broken view is spells breaks =
    subst (λ x. Outputs (IsLeft b₁) b₁ s x (sized size b') s') (sym broken)
    (subst (λ x. Outputs (IsLeft x) x s (Err refusals.Broken) (sized size b') s') (sym view)
    (leave (sized size b), refl, (left_board size b b' is, subst (λ x. BreaksDuring x s s') (left_bytes size b bytes spells) breaks)))

-- a frame, of a dashboard that has taken its size
pub frame_whole : (size : Option (ℕ × ℕ)) (b b' b₁ : Board) (at : ℕ) (rows : List PathRow) (messages : List Message) (c : Contents) (bytes : List ℕ) (s s' : ScreenState)
    → size ≡ None → AreContents rows messages at c → b₁ ≡ b → b' ≡ after_frame b c → bytes ≡ spelling (frame_signs b c) → WritesFrame bytes s s'
    → Outputs (IsFrame b₁ at rows messages) b₁ s (Ok Drawn) (sized size b') s'
frame_whole size b b' b₁ at rows messages c bytes s s' taken are view is spells written =
    subst (λ x. Outputs (IsFrame b₁ at rows messages) b₁ s (Ok Drawn) (sized x b') s') (sym taken)
    (subst (λ x. Outputs (IsFrame x at rows messages) x s (Ok Drawn) b' s') (sym view)
    (draw b c, (c, are, refl), (refl, is, subst (λ x. WritesFrame x s s') spells written)))

pub frame_broken : (size : Option (ℕ × ℕ)) (b b' b₁ : Board) (at : ℕ) (rows : List PathRow) (messages : List Message) (c : Contents) (bytes : List ℕ) (s s' : ScreenState) (result : Result EngineAnswer Refusal)
    → size ≡ None → result ≡ Err refusals.Broken → AreContents rows messages at c → b₁ ≡ b → b' ≡ after_frame b c → bytes ≡ spelling (frame_signs b c) → BreaksDuring bytes s s'
    → Outputs (IsFrame b₁ at rows messages) b₁ s result (sized size b') s'
frame_broken size b b' b₁ at rows messages c bytes s s' result taken broken are view is spells breaks =
    subst (λ x. Outputs (IsFrame b₁ at rows messages) b₁ s result (sized x b') s') (sym taken)
    (subst (λ x. Outputs (IsFrame b₁ at rows messages) b₁ s x b' s') (sym broken)
    (subst (λ x. Outputs (IsFrame x at rows messages) x s (Err refusals.Broken) b' s') (sym view)
    (draw b c, (c, are, refl), (is, subst (λ x. BreaksDuring x s s') spells breaks))))

-- ---- what is done after an answer of the dashboard

abbrev NotStop : Answer → Type 0
NotStop Redraw = Unit {0}
NotStop Skip = Unit {0}
NotStop Stop = ⊥

runs_open : (phase : Phase) → runs phase ≡ true → has_closed phase ≡ false
runs_open Running is = refl
runs_open Stopped is = refl
runs_open Closed is = absurd (true≢false (sym is))

phase_open : (answer : Answer) → has_closed (phase_after answer) ≡ false
phase_open Redraw = refl
phase_open Skip = refl
phase_open Stop = refl

phase_runs : (answer : Answer) → NotStop answer → runs (phase_after answer) ≡ true
phase_runs Redraw more = refl
phase_runs Skip more = refl
phase_runs Stop more = absurd more

-- a dashboard, and its answer, by whether it was running
abbrev handled_by : Bool → Board → State × Answer → Board × Answer
handled_by running b h = cond running (handled_running b h) (b, Stop)

abbrev sized_by : Bool → Board → ℕ → ℕ → Board × Answer
sized_by running b columns rows = cond running (resized columns rows b, Redraw) (b, Stop)

runs_by : (running : Bool) (b : Board) (h : State × Answer) → is_running b ≡ running → NotStop (handled_by running b h).1
    → (is_running b ≡ true) × (is_running (handled_by running b h).0 ≡ true)
runs_by true b h is more = (is, phase_runs h.1 more)
runs_by false b h is more = absurd more

told_by : (running : Bool) (b : Board) (h : State × Answer) → is_running b ≡ running
    → (is_closed (handled_by running b h).0 ≡ is_closed b) × (is_closed b ≡ true → (handled_by running b h).0 ≡ b)
told_by true b h is =
    (phase_open h.1 ∙ sym (runs_open b.phase is), λ closed. absurd (true≢false (sym closed ∙ runs_open b.phase is)))
told_by false b h is = (refl, λ closed. refl)

resized_by : (running : Bool) (b : Board) (columns rows : ℕ) → is_running b ≡ running
    → (is_closed (sized_by running b columns rows).0 ≡ is_closed b) × (is_closed b ≡ true → (sized_by running b columns rows).0 ≡ b)
resized_by true b columns rows is = (refl, λ closed. absurd (true≢false (sym closed ∙ runs_open b.phase is)))
resized_by false b columns rows is = (refl, λ closed. refl)

-- an event closes no dashboard, and leaves one that was closed as it is
told_closed : (b : Board) (event : EngineEvent) → (is_closed (told b event).0 ≡ is_closed b) × (is_closed b ≡ true → (told b event).0 ≡ b)
told_closed b (Handle at event) = told_by (is_running b) b (handle b.state event) refl
told_closed b (Resize at columns rows) = resized_by (is_running b) b columns rows refl
told_closed b (Quit at) = (refl, λ closed. refl)

open_by : (running : Bool) (b : Board) (columns rows : ℕ) → is_running b ≡ running → NotStop (sized_by running b columns rows).1 → is_running b ≡ true
open_by true b columns rows is more = is
open_by false b columns rows is more = absurd more

resize_runs : (running : Bool) (b : Board) (columns rows : ℕ) → is_running b ≡ running → NotStop (sized_by running b columns rows).1
    → is_running (sized_by running b columns rows).0 ≡ true
resize_runs true b columns rows is more = is
resize_runs false b columns rows is more = absurd more

told_open : (b : Board) (event : EngineEvent) → NotStop (told b event).1 → is_closed b ≡ false
told_open b (Handle at event) more = runs_open b.phase (runs_by (is_running b) b (handle b.state event) refl more).0
told_open b (Resize at columns rows) more = runs_open b.phase (open_by (is_running b) b columns rows refl more)
told_open b (Quit at) more = absurd more

module _ (sees : Seen → Type 0) (stops : Bool) where
  -- the end is what is done after `Stop`
  does_stop : (b : Board) (at : ℕ) (s : ScreenState) (result : Result EngineAnswer Refusal) (b' : Board) (s' : ScreenState)
      → Outputs (IsLeft b) b s result b' s' → Does sees stops Stop b at s result b' s'
  does_stop b at s (Ok answer) b' s' h = h
  does_stop b at s (Err refusals.Memory) b' s' h = (tt, h)
  does_stop b at s (Err refusals.TooManyMessages) b' s' h = absurd h
  does_stop b at s (Err refusals.TooManyHandles) b' s' h = absurd h
  does_stop b at s (Err refusals.NoThread) b' s' h = absurd h
  does_stop b at s (Err refusals.Gone) b' s' h = absurd h
  does_stop b at s (Err refusals.Closed) b' s' h = absurd h
  does_stop b at s (Err refusals.Broken) b' s' h = h

  -- what is seen calls for the end
  abbrev Ends : Seen → Type 0
  Ends None = Unit {0}
  Ends (Some seen) = (stops && nat_eq (length seen.0) 0) ≡ true

  ends_seen : (seen : Seen) (b : Board) (at : ℕ) → Ends seen → ShowsSeen stops b at seen (leave b)
  ends_seen None b at ends = refl
  ends_seen (Some seen) b at ends = subst (λ t. Shows t b at seen.0 seen.1 (leave b)) (sym ends) refl

  may_end : (seen : Seen) (b : Board) (at : ℕ) (o : Outcome) → sees seen → Ends seen → IsLeft b o → MayDo sees stops Redraw b at o
  may_end seen b at o saw ends is = (seen, saw, subst (λ o. ShowsSeen stops b at seen o) (sym is) (ends_seen seen b at ends))

  -- so the end is what is done after `Redraw`
  does_end : (seen : Seen) (b : Board) (at : ℕ) (s : ScreenState) (result : Result EngineAnswer Refusal) (b' : Board) (s' : ScreenState)
      → sees seen → Ends seen → Outputs (IsLeft b) b s result b' s' → Does sees stops Redraw b at s result b' s'
  does_end seen b at s (Ok answer) b' s' saw ends h = (h.0, may_end seen b at h.0 saw ends h.1, h.2)
  does_end seen b at s (Err refusals.Memory) b' s' saw ends h = (tt, h)
  does_end seen b at s (Err refusals.TooManyMessages) b' s' saw ends h = absurd h
  does_end seen b at s (Err refusals.TooManyHandles) b' s' saw ends h = absurd h
  does_end seen b at s (Err refusals.NoThread) b' s' saw ends h = absurd h
  does_end seen b at s (Err refusals.Gone) b' s' saw ends h = absurd h
  does_end seen b at s (Err refusals.Closed) b' s' saw ends h = absurd h
  does_end seen b at s (Err refusals.Broken) b' s' saw ends h = (h.0, may_end seen b at h.0 saw ends h.1, h.2)

  pub does_end_unseen : (b : Board) (at : ℕ) (s : ScreenState) (result : Result EngineAnswer Refusal) (b' : Board) (s' : ScreenState)
      → sees None → Outputs (IsLeft b) b s result b' s' → Does sees stops Redraw b at s result b' s'
  does_end_unseen b at s result b' s' saw h = does_end None b at s result b' s' saw tt h

  pub does_end_seen : (seen : List PathRow × List Message × ℕ) (b : Board) (at : ℕ) (s : ScreenState) (result : Result EngineAnswer Refusal) (b' : Board) (s' : ScreenState)
      → sees (Some seen) → (stops && nat_eq (length seen.0) 0) ≡ true → Outputs (IsLeft b) b s result b' s' → Does sees stops Redraw b at s result b' s'
  does_end_seen seen b at s result b' s' saw ends h = does_end (Some seen) b at s result b' s' saw ends h

  may_show : (seen : List PathRow × List Message × ℕ) (b : Board) (at : ℕ) (o : Outcome) → sees (Some seen)
      → (stops && nat_eq (length seen.0) 0) ≡ false → IsFrame b at seen.0 seen.1 o → MayDo sees stops Redraw b at o
  may_show seen b at o saw shown frame = (Some seen, saw, subst (λ t. Shows t b at seen.0 seen.1 o) (sym shown) frame)

  -- and else a frame
  pub does_frame : (seen : List PathRow × List Message × ℕ) (b : Board) (at : ℕ) (s : ScreenState) (result : Result EngineAnswer Refusal) (b' : Board) (s' : ScreenState)
      → sees (Some seen) → (stops && nat_eq (length seen.0) 0) ≡ false → Outputs (IsFrame b at seen.0 seen.1) b s result b' s'
      → Does sees stops Redraw b at s result b' s'
  does_frame seen b at s (Ok answer) b' s' saw shown h = (h.0, may_show seen b at h.0 saw shown h.1, h.2)
  does_frame seen b at s (Err refusals.Memory) b' s' saw shown h = (tt, h)
  does_frame seen b at s (Err refusals.TooManyMessages) b' s' saw shown h = absurd h
  does_frame seen b at s (Err refusals.TooManyHandles) b' s' saw shown h = absurd h
  does_frame seen b at s (Err refusals.NoThread) b' s' saw shown h = absurd h
  does_frame seen b at s (Err refusals.Gone) b' s' saw shown h = absurd h
  does_frame seen b at s (Err refusals.Closed) b' s' saw shown h = absurd h
  does_frame seen b at s (Err refusals.Broken) b' s' saw shown h = (h.0, may_show seen b at h.0 saw shown h.1, h.2)

  -- ---- a step

  -- of a screen that isn't broken
  healthy_step : (b : Board) (event : EngineEvent) (s : ScreenState) (result : Result EngineAnswer Refusal) (b' : Board) (s' : ScreenState)
      → s.broken ≡ false → StepsIf sees stops false (is_closed b) event b s result b' s' → StepsIf sees stops s.broken (is_closed b) event b s result b' s'
  healthy_step b event s result b' s' healthy h = subst (λ t. StepsIf sees stops t (is_closed b) event b s result b' s') (sym healthy) h

  -- more is to be done than to leave the terminal
  pub step_goes_on : (b b₁ : Board) (answer : Answer) (event : EngineEvent) (s : ScreenState) (result : Result EngineAnswer Refusal) (b' : Board) (s' : ScreenState)
      → s.broken ≡ false → told b event ≡ (b₁, answer) → NotStop answer → Does sees stops answer b₁ (moment_of event) s result b' s'
      → StepsIf sees stops s.broken (is_closed b) event b s result b' s'
  step_goes_on b b₁ answer event s result b' s' healthy tells more does =
      let unclosed : is_closed b ≡ false = told_open b event (subst (λ (t : Board × Answer). NotStop t.1) (sym tells) more) in
      healthy_step b event s result b' s' healthy
      (subst (λ t. StepsIf sees stops false t event b s result b' s') (sym unclosed)
      (subst (λ (t : Board × Answer). Does sees stops t.1 t.0 (moment_of event) s result b' s') (sym tells) does))

  -- nothing is to be seen
  pub step_skips : (b b₁ : Board) (event : EngineEvent) (s : ScreenState) → s.broken ≡ false → told b event ≡ (b₁, Skip)
      → StepsIf sees stops s.broken (is_closed b) event b s (Ok Skipped) b₁ s
  step_skips b b₁ event s healthy tells =
      step_goes_on b b₁ Skip event s (Ok Skipped) b₁ s healthy tells tt
      (skip b₁, refl, (refl, refl, record { bytes = sym (append-nil s.bytes); flushed = refl; healthy = λ some. absurd (true≢false (sym some)); broken = refl }))

  -- the terminal is to be left
  pub step_stops : (b b₁ : Board) (event : EngineEvent) (s : ScreenState) (result : Result EngineAnswer Refusal) (b' : Board) (s' : ScreenState)
      → s.broken ≡ false → told b event ≡ (b₁, Stop)
      → (is_closed b₁ ≡ false → Outputs (IsLeft b₁) b₁ s result b' s')
      → (is_closed b₁ ≡ true → (result ≡ Err refusals.Closed) × Stays b₁ s b' s')
      → StepsIf sees stops s.broken (is_closed b) event b s result b' s'
  step_stops b b₁ event s result b' s' healthy tells leaves again =
      let same : is_closed b₁ ≡ is_closed b = ap (λ (t : Board × Answer). is_closed t.0) (sym tells) ∙ (told_closed b event).0 in
      let go : (t : Bool) → is_closed b ≡ t → StepsIf sees stops false t event b s result b' s' =
      λ t. elim t as (λ t. is_closed b ≡ t → StepsIf sees stops false t event b s result b' s') [
        | true ↦ λ is.
            let refused = again (same ∙ is) in
            let stays : b₁ ≡ b = ap (λ (t : Board × Answer). t.0) (sym tells) ∙ (told_closed b event).1 is in
            (refused.0, (refused.1.0 ∙ stays, refused.1.1))
        | false ↦ λ is.
            subst (λ (t : Board × Answer). Does sees stops t.1 t.0 (moment_of event) s result b' s') (sym tells)
            (does_stop b₁ (moment_of event) s result b' s' (leaves (same ∙ is)))
      ] in
      healthy_step b event s result b' s' healthy (go (is_closed b) refl)

-- ---- the same of an engine

module _ {S W Root : Type 0} (state : S → ScreenState) (finds : W → Option Root → Type 0) (looks : Looks Root) where
  -- what is seen has no rows, and it is to stop then
  pub engine_ends : (e e₁ e' : DashboardEngine S W) (at : ℕ) (seen : List PathRow × List Message × ℕ) (result : Result EngineAnswer Refusal)
      → e₁ ≡ e → is_running e.board ≡ true → EngineSees finds looks e (Some seen) → (e.stops_without_rows && nat_eq (length seen.0) 0) ≡ true
      → (is_closed e₁.board ≡ false → EngineLeaves state e₁ result e') → EngineDoes state finds looks Redraw at e result e'
  engine_ends e e₁ e' at seen result kept running saw ends leaves =
      does_end_seen (EngineSees finds looks e) e.stops_without_rows seen e.board at (state e.screen) result e'.board (state e'.screen) saw ends
      (subst (λ (x : DashboardEngine S W). is_closed x.board ≡ false → EngineLeaves state x result e') kept leaves (runs_open e.board.phase running))

  -- what is seen is shown
  pub engine_shows : (e e₁ e₂ : DashboardEngine S W) (b' : Board) (screen' : S) (at : ℕ) (seen : List PathRow × List Message × ℕ) (result : Result EngineAnswer Refusal)
      → e₁ ≡ e → b' ≡ e₂.board → screen' ≡ e₂.screen → EngineSees finds looks e (Some seen)
      → (e.stops_without_rows && nat_eq (length seen.0) 0) ≡ false → EngineShows state e₁ at seen.0 seen.1 result e₂
      → Does (EngineSees finds looks e) e.stops_without_rows Redraw e.board at (state e.screen) result b' (state screen')
  engine_shows e e₁ e₂ b' screen' at seen result kept board screen saw shown frame =
      does_frame (EngineSees finds looks e) e.stops_without_rows seen e.board at (state e.screen) result b' (state screen') saw shown
      (subst (λ (b : Board). Outputs (IsFrame e.board at seen.0 seen.1) e.board (state e.screen) result b (state screen')) (sym board)
      (subst (λ (x : S). Outputs (IsFrame e.board at seen.0 seen.1) e.board (state e.screen) result e₂.board (state x)) (sym screen)
      (subst (λ (x : DashboardEngine S W). EngineShows state x at seen.0 seen.1 result e₂) kept frame)))

  -- the dashboard is to stop
  pub engine_stops : (e e₁ e' : DashboardEngine S W) (event : EngineEvent) (answer : Answer) (result : Result EngineAnswer Refusal)
      → (state e.screen).broken ≡ false → e₁.screen ≡ e.screen → ◌≡◌ {A = Board × Answer} (e₁.board, answer) (told e.board event) → answer ≡ Stop
      → (is_closed e₁.board ≡ false → EngineLeaves state e₁ result e')
      → (is_closed e₁.board ≡ true → EngineHasLeft state e₁ result e')
      → EngineSteps state finds looks e event result e'
  engine_stops e e₁ e' event answer result healthy screen tells stop leaves again =
      let told_stop : told e.board event ≡ (e₁.board, Stop) =
      subst (λ (x : Answer). ◌≡◌ {A = Board × Answer} (told e.board event) (e₁.board, x)) stop (sym tells) in
      step_stops (EngineSees finds looks e) e.stops_without_rows e.board e₁.board event (state e.screen) result e'.board (state e'.screen) healthy told_stop
      (λ unclosed. subst (λ (x : S). Outputs (IsLeft e₁.board) e₁.board (state x) result e'.board (state e'.screen)) screen (leaves unclosed))
      (λ closed. subst (λ (x : S). (result ≡ Err refusals.Closed) × Stays e₁.board (state x) e'.board (state e'.screen)) screen (again closed))

-- more is to be done than to stop, so the dashboard runs
told_runs : (b : Board) (event : EngineEvent) → NotStop (told b event).1 → is_running (told b event).0 ≡ true
told_runs b (Handle at event) more = (runs_by (is_running b) b (handle b.state event) refl more).1
told_runs b (Resize at columns rows) more = resize_runs (is_running b) b columns rows refl more
told_runs b (Quit at) more = absurd more

pub redraw_runs : (b b₁ : Board) (event : EngineEvent) (answer : Answer) → ◌≡◌ {A = Board × Answer} (b₁, answer) (told b event) → answer ≡ Redraw → is_running b₁ ≡ true
redraw_runs b b₁ event answer tells redraw =
    ap (λ (t : Board × Answer). is_running t.0) tells
    ∙ told_runs b event (subst (λ (t : Board × Answer). NotStop t.1) tells (subst NotStop (sym redraw) tt))

-- ---- the event of a step, of a dashboard that is to take a size

pub told_handle : (size : Option (ℕ × ℕ)) (d d' b : Board) (at : ℕ) (event : Event) (answer : Answer) (e : EngineEvent)
    → e ≡ Handle at event → b ≡ sized size d → ◌≡◌ {A = Board × Answer} (d', answer) (handled d event)
    → ◌≡◌ {A = Board × Answer} (sized size d', answer) (told b e)
told_handle size d d' b at event answer e of view is =
    let handles : ◌≡◌ {A = Board × Answer} (sized size d', answer) (handled (sized size d) event) =
    ap (λ (t : Board × Answer). sized_pair size t) is ∙ sym (handled_sized size d event) in
    subst (λ x. ◌≡◌ {A = Board × Answer} (sized size d', answer) (told b x)) (sym of)
    (subst (λ x. ◌≡◌ {A = Board × Answer} (sized size d', answer) (handled x event)) (sym view) handles)

pub told_resize : (size : Option (ℕ × ℕ)) (d b : Board) (at columns rows : ℕ) (e : EngineEvent)
    → e ≡ Resize at columns rows → b ≡ sized size d → is_running d ≡ true → ◌≡◌ {A = Board × Answer} (sized (Some (columns, rows)) d, Redraw) (told b e)
told_resize size d b at columns rows e of view running =
    let resizes : ◌≡◌ {A = Board × Answer} (sized_by (is_running (sized size d)) (sized size d) columns rows) (sized (Some (columns, rows)) d, Redraw) =
    ap (λ t. sized_by t (sized size d) columns rows) (sized_runs size d ∙ running)
    ∙ ap (λ (x : Board). with_answer Redraw x) (resized_sized columns rows size d) in
    subst (λ x. ◌≡◌ {A = Board × Answer} (sized (Some (columns, rows)) d, Redraw) (told b x)) (sym of)
    (subst (λ x. ◌≡◌ {A = Board × Answer} (sized (Some (columns, rows)) d, Redraw) (sized_by (is_running x) x columns rows)) (sym view) (sym resizes))

pub told_resize_late : (size : Option (ℕ × ℕ)) (d b : Board) (at columns rows : ℕ) (e : EngineEvent)
    → e ≡ Resize at columns rows → b ≡ sized size d → is_running d ≡ false → ◌≡◌ {A = Board × Answer} (b, Stop) (told b e)
told_resize_late size d b at columns rows e of view ended =
    subst (λ x. ◌≡◌ {A = Board × Answer} (b, Stop) (told b x)) (sym of)
    (ap (λ t. sized_by t b columns rows) (sym (ap is_running view ∙ sized_runs size d ∙ ended)))

pub told_quit : (b : Board) (at : ℕ) (e : EngineEvent) → e ≡ Quit at → ◌≡◌ {A = Board × Answer} (b, Stop) (told b e)
told_quit b at e of = subst (λ x. ◌≡◌ {A = Board × Answer} (b, Stop) (told b x)) (sym of) refl

-- the parts of a step
pub ruleset writing = (left_whole, left_broken, frame_whole, frame_broken, ascending_list, sized_runs, sized_closed)

pub ruleset drawing = (does_end_unseen, engine_ends, engine_shows)

pub ruleset telling = (told_handle, told_resize, told_resize_late, told_quit)

pub ruleset stepping = (step_goes_on, step_skips, redraw_runs)
