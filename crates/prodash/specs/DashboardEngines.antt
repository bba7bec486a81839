-- The engine of a dashboard: a dashboard that looks at a root by itself, and what one step of it does.
use Rattle.std.specs.Prelude.{◌≡◌, ℕ, Bool, true, false, ◌&&◌, nat_eq, List, [], length, Option, Some, None, Result, Ok, Err, if◌then◌else◌}
use Rattle.std.specs.Global.{Vec}
use Rattle.prodash_base.specs.Moments.{IsDateTimeText}
use Rattle.prodash_base.specs.Rows.{PathRow, rows_of}
use Rattle.prodash_base.specs.declared.messages.Message.{Message}
use Rattle.prodash_base.specs.declared.refusal.Refusal.{Refusal}
use Rattle.prodash_base.specs.declared.refusal.Refusal.TheVariants as refusals
use Rattle.prodash_line.specs.Renderer.{Seen}
use Rattle.prodash_line.specs.Screens.{ScreenState, WritesFrame, BreaksDuring}
use Rattle.prodash_core.specs.declared.render.tui.event.Answer.{Answer}
use Rattle.prodash_core.specs.declared.render.tui.event.Answer.TheVariants.{Redraw, Skip, Stop}
use Rattle.prodash_core.specs.declared.render.tui.event.Line.{Line}
use Rattle.prodash_core.specs.declared.render.tui.options.Options.{Options}
use Rattle.prodash_tui.specs.declared.dashboard.contents.Contents.{Contents}
use Rattle.prodash_tui.specs.declared.sign.Sign.{Sign}
use Rattle.prodash_tui.specs.Boards.{Board, after_frame, closed, closing, first_state, frame_signs, handled, is_closed, is_running, new_board, resized}
use Rattle.prodash_tui.specs.Signs.{spelling}
use Rattle.prodash.specs.Engines.{Looks, MaySee}
use Rattle.prodash.specs.declared.render.tui.engine.event.EngineAnswer.{EngineAnswer}
use Rattle.prodash.specs.declared.render.tui.engine.event.EngineAnswer.TheVariants.{Drawn, Skipped, Ended}
use Rattle.prodash.specs.declared.render.tui.engine.event.EngineEvent.{EngineEvent}
use Rattle.prodash.specs.declared.render.tui.engine.event.EngineEvent.TheVariants.{Handle, Resize, Quit}

-- a dashboard, which has taken the latest size of its terminal, whether it stops without rows, its screen, and the weak root that it looks at
pub record DashboardEngine (S W : Type 0) : Type 0 where
  pub board : Board
  pub stops_without_rows : Bool
  pub screen : S
  pub weak : W

-- the engine of a dashboard that has drawn nothing yet, on a terminal of this size
abbrev pub new_engine : {S W : Type 0} → Options → Vec Line → ℕ × ℕ → S → W → DashboardEngine S W
new_engine options information size screen weak = record {
  board = new_board options (first_state options information) size.0 size.1;
  stops_without_rows = options.stop_if_progress_missing;
  screen = screen;
  weak = weak;
}

-- it is one without information
abbrev pub IsNewEngine : {S W : Type 0} → Options → ℕ × ℕ → S → W → DashboardEngine S W → Type 0
IsNewEngine options size screen weak e =
    (information : Vec Line) × (information.items ≡ []) × (e ≡ new_engine options information size screen weak)

-- what an event leaves of a dashboard, and what is to be done then: one that isn't running leaves the terminal
abbrev pub told : Board → EngineEvent → Board × Answer
told b (Handle at event) = handled b event
told b (Resize at columns rows) = if is_running b then (resized columns rows b, Redraw) else (b, Stop)
told b (Quit at) = (b, Stop)

-- the moment of an event
abbrev pub moment_of : EngineEvent → ℕ
moment_of (Handle at event) = at
moment_of (Resize at columns rows) = at
moment_of (Quit at) = at

-- these rows and messages, at a moment, which they have as a text too
pub record AreContents (rows : List PathRow) (messages : List Message) (at : ℕ) (c : Contents) : Type 0 where
  pub has_rows : rows_of c.rows.now ≡ rows
  pub has_messages : c.messages.now ≡ messages
  pub has_moment : c.at ≡ at
  pub has_time : IsDateTimeText at c.time.now

-- what a step does: the signs that it writes, the dashboard then, and the answer
pub record Outcome : Type 0 where
  pub signs : List Sign
  pub board : Board
  pub answer : EngineAnswer

-- nothing is to be seen
abbrev pub skip : Board → Outcome
skip b = record { signs = []; board = b; answer = Skipped }

-- the terminal is left
abbrev pub leave : Board → Outcome
leave b = record { signs = closing b.screen; board = closed b; answer = Ended }

-- a frame is drawn
abbrev pub draw : Board → Contents → Outcome
draw b c = record { signs = frame_signs b c; board = after_frame b c; answer = Drawn }

-- what is done for rows and messages at a moment: a frame of them is drawn, or the terminal is left if there are to be rows, and are none
abbrev pub Shows : Bool → Board → ℕ → List PathRow → List Message → Outcome → Type 0
Shows true b at rows messages o = o ≡ leave b
Shows false b at rows messages o = (c : Contents) × AreContents rows messages at c × (o ≡ draw b c)

-- what is done for what is seen at a moment: without a root the terminal is left
abbrev pub ShowsSeen : Bool → Board → ℕ → Seen → Outcome → Type 0
ShowsSeen stops b at None o = o ≡ leave b
ShowsSeen stops b at (Some seen) o = Shows (stops && nat_eq (length seen.0) 0) b at seen.0 seen.1 o

-- something is to be written
abbrev pub Writes : Answer → Type 0
Writes Redraw = Unit {0}
Writes Skip = ⊥
Writes Stop = Unit {0}

-- the root is to be looked at
abbrev pub LooksAtRoot : Answer → Type 0
LooksAtRoot Redraw = Unit {0}
LooksAtRoot Skip = ⊥
LooksAtRoot Stop = ⊥

-- the dashboard and the screen are these still
abbrev pub Stays : Board → ScreenState → Board → ScreenState → Type 0
Stays b s b' s' = (b' ≡ b) × (s' ≡ s)

-- an outcome is written whole
abbrev pub WritesOutcome : Outcome → ScreenState → EngineAnswer → Board → ScreenState → Type 0
WritesOutcome o s answer b' s' = (answer ≡ o.answer) × (b' ≡ o.board) × WritesFrame (spelling o.signs) s s'

-- the screen breaks while an outcome is written
abbrev pub BreaksOff : Outcome → ScreenState → Board → ScreenState → Type 0
BreaksOff o s b' s' = (b' ≡ o.board) × BreaksDuring (spelling o.signs) s s'

module _ (sees : Seen → Type 0) (stops : Bool) where
  -- what may be done at a moment after this answer of the dashboard
  abbrev pub MayDo : Answer → Board → ℕ → Outcome → Type 0
  MayDo Redraw b at o = (seen : Seen) × sees seen × ShowsSeen stops b at seen o
  MayDo Skip b at o = o ≡ skip b
  MayDo Stop b at o = o ≡ leave b

  -- what is returned after this answer of the dashboard, and what is left
  abbrev pub Does : Answer → Board → ℕ → ScreenState → Result EngineAnswer Refusal → Board → ScreenState → Type 0
  Does answer b at s (Ok done) b' s' = (o : Outcome) × MayDo answer b at o × WritesOutcome o s done b' s'
  Does answer b at s (Err refusals.Memory) b' s' = Writes answer × Stays b s b' s'
  Does answer b at s (Err refusals.TooManyHandles) b' s' = LooksAtRoot answer × Stays b s b' s'
  Does answer b at s (Err refusals.Broken) b' s' = (o : Outcome) × MayDo answer b at o × BreaksOff o s b' s'
  Does answer b at s (Err _) b' s' = ⊥

  -- what a step of a dashboard returns and leaves: it is refused if the screen is broken, and else if the terminal was left
  abbrev pub StepsIf : Bool → Bool → EngineEvent → Board → ScreenState → Result EngineAnswer Refusal → Board → ScreenState → Type 0
  StepsIf true left event b s result b' s' = (result ≡ Err refusals.Broken) × Stays b s b' s'
  StepsIf false true event b s result b' s' = (result ≡ Err refusals.Closed) × Stays b s b' s'
  StepsIf false false event b s result b' s' =
      Does (told b event).1 (told b event).0 (moment_of event) s result b' s'

module _ {S W Root : Type 0} where
  -- what a frame of an engine may see: what one look shows of all messages that are kept
  abbrev pub EngineSees : (W → Option Root → Type 0) → Looks Root → DashboardEngine S W → Seen → Type 0
  EngineSees finds looks e = MaySee (finds e.weak) looks None

  -- what a step of an engine returns, and what it leaves of the dashboard and the screen
  abbrev pub EngineSteps : (S → ScreenState) → (W → Option Root → Type 0) → Looks Root
      → DashboardEngine S W → EngineEvent → Result EngineAnswer Refusal → DashboardEngine S W → Type 0
  EngineSteps state finds looks e event result e' =
      StepsIf (EngineSees finds looks e) e.stops_without_rows (state e.screen).broken (is_closed e.board)
      event e.board (state e.screen) result e'.board (state e'.screen)
