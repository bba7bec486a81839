-- What the parts of a step of a dashboard's engine do.
use Rattle.std.specs.Prelude.{◌≡◌, ℕ, Bool, true, List, Option, Some, None, Result, Ok, Err}
use Rattle.prodash_base.specs.Rows.{PathRow}
use Rattle.prodash_base.specs.declared.messages.Message.{Message}
use Rattle.prodash_base.specs.declared.refusal.Refusal.{Refusal}
use Rattle.prodash_base.specs.declared.refusal.Refusal.TheVariants as refusals
use Rattle.prodash_line.specs.Screens.{ScreenState}
use Rattle.prodash_core.specs.declared.render.tui.event.Answer.{Answer}
use Rattle.prodash_tui.specs.declared.dashboard.contents.Contents.{Contents}
use Rattle.prodash_tui.specs.Boards.{Board, is_closed, resized}
use Rattle.prodash.specs.declared.render.tui.engine.event.EngineAnswer.{EngineAnswer}
use Rattle.prodash.specs.Engines.{Looks}
use Rattle.prodash.specs.DashboardEngines.{DashboardEngine, AreContents, Outcome, draw, leave, Stays, WritesOutcome, BreaksOff, Does, EngineSees}

-- a dashboard as it is once it has taken a size, if there is one that it is to take
abbrev pub sized : Option (ℕ × ℕ) → Board → Board
sized None b = b
sized (Some size) b = resized size.0 size.1 b

-- an outcome of these is written, whole or not, or there is no memory for it
abbrev pub Outputs : (Outcome → Type 0) → Board → ScreenState → Result EngineAnswer Refusal → Board → ScreenState → Type 0
Outputs may b s (Ok answer) b' s' = (o : Outcome) × may o × WritesOutcome o s answer b' s'
Outputs may b s (Err refusals.Memory) b' s' = Stays b s b' s'
Outputs may b s (Err refusals.Broken) b' s' = (o : Outcome) × may o × BreaksOff o s b' s'
Outputs may b s (Err _) b' s' = ⊥

-- the terminal is left
abbrev pub IsLeft : Board → Outcome → Type 0
IsLeft b o = o ≡ leave b

-- a frame of these rows and messages is drawn
abbrev pub IsFrame : Board → ℕ → List PathRow → List Message → Outcome → Type 0
IsFrame b at rows messages o = (c : Contents) × AreContents rows messages at c × (o ≡ draw b c)

module _ {S W : Type 0} where
  -- the parts of an engine that no step changes
  abbrev pub KeepsRest : DashboardEngine S W → DashboardEngine S W → Type 0
  KeepsRest e e' = (e'.weak ≡ e.weak) × (e'.stops_without_rows ≡ e.stops_without_rows)

  -- the dashboard and the screen of an engine are these still
  abbrev pub EngineStays : (S → ScreenState) → DashboardEngine S W → DashboardEngine S W → Type 0
  EngineStays state e e' = Stays e.board (state e.screen) e'.board (state e'.screen)

  -- an engine leaves the terminal
  abbrev pub EngineLeaves : (S → ScreenState) → DashboardEngine S W → Result EngineAnswer Refusal → DashboardEngine S W → Type 0
  EngineLeaves state e result e' =
      Outputs (IsLeft e.board) e.board (state e.screen) result e'.board (state e'.screen)

  -- the terminal was left before, and nothing changes
  abbrev pub EngineHasLeft : (S → ScreenState) → DashboardEngine S W → Result EngineAnswer Refusal → DashboardEngine S W → Type 0
  EngineHasLeft state e result e' = (result ≡ Err refusals.Closed) × EngineStays state e e'

  -- an engine draws a frame of these rows and messages
  abbrev pub EngineShows : (S → ScreenState) → DashboardEngine S W → ℕ → List PathRow → List Message
      → Result EngineAnswer Refusal → DashboardEngine S W → Type 0
  EngineShows state e at rows messages result e' =
      Outputs (IsFrame e.board at rows messages) e.board (state e.screen) result e'.board (state e'.screen)

module _ {S W Root : Type 0} where
  -- what an engine does at a moment after an answer of its dashboard
  abbrev pub EngineDoes : (S → ScreenState) → (W → Option Root → Type 0) → Looks Root
      → Answer → ℕ → DashboardEngine S W → Result EngineAnswer Refusal → DashboardEngine S W → Type 0
  EngineDoes state finds looks answer at e result e' =
      Does (EngineSees finds looks e) e.stops_without_rows answer e.board at
      (state e.screen) result e'.board (state e'.screen)
