-- The engine: a renderer that looks at a root by itself, and what one step of it does.
use Rattle.std.specs.Prelude.{◌≡◌, ℕ, List, Option, Some, None, Result, Ok, Err, ◌⊎◌, Bool, true, false, not, ◌&&◌, unwrap_or}
use Rattle.std.specs.Map.{keys_of}
use Rattle.prodash_base.specs.Adjacency.{IsAscending}
use Rattle.prodash_base.specs.Rows.{PathRow}
use Rattle.prodash_base.specs.declared.messages.Message.{Message}
use Rattle.prodash_base.specs.declared.refusal.Refusal.{Refusal}
use Rattle.prodash_base.specs.declared.refusal.Refusal.TheVariants as refusals
use Rattle.prodash_line.specs.declared.render.line.draw.input.Input.{Input}
use Rattle.prodash_line.specs.declared.render.line.draw.input.Input.TheVariants as inputs
use Rattle.prodash_line.specs.declared.render.line.draw.input.Answer.{Answer}
use Rattle.prodash_line.specs.declared.render.line.draw.input.Options.{Options as DrawOptions}
use Rattle.prodash_line.specs.Renderer.{Renderer, Seen, Accepts, RunsOutOfMemory, Refuses, Breaks, new_renderer, default_options as draw_defaults}
use Rattle.prodash_line.specs.Screens.{ScreenState}
use Rattle.prodash_line.specs.Environments.{IsReadFrom, is_colored}
use Rattle.prodash_line.specs.declared.render.line.terminal.Environment.{Environment}
use Rattle.prodash.specs.declared.render.line.engine.options.Options.{Options}
use Rattle.prodash.specs.declared.render.line.engine.event.EngineEvent.{EngineEvent}
use Rattle.prodash.specs.declared.render.line.engine.event.EngineEvent.TheVariants.{Tick, Resize, Quit}

-- a renderer, its screen, and the weak root that it looks at
pub record EngineState (S W : Type 0) : Type 0 where
  pub renderer : Renderer
  pub screen : S
  pub weak : W

-- the engine of a renderer that has drawn nothing yet
abbrev pub new_engine : {S W : Type 0} → DrawOptions → Bool → S → W → EngineState S W
new_engine options throughput screen weak =
    record { renderer = new_renderer options throughput; screen = screen; weak = weak }

-- the options by default: those of frames, with six frames a second, no delay and no throughput
abbrev pub default_options : Options
default_options = record {
  output_is_terminal = draw_defaults.output_is_terminal;
  colored = draw_defaults.colored;
  timestamp = draw_defaults.timestamp;
  terminal_dimensions = draw_defaults.terminal_dimensions;
  hide_cursor = draw_defaults.hide_cursor;
  defensive = draw_defaults.defensive;
  synchronized = draw_defaults.synchronized;
  whole_messages = draw_defaults.whole_messages;
  bare_without_origin = draw_defaults.bare_without_origin;
  bar_columns = draw_defaults.bar_columns;
  ascii = draw_defaults.ascii;
  times = draw_defaults.times;
  prefer_running = draw_defaults.prefer_running;
  throughput = false;
  level_filter = draw_defaults.level_filter;
  initial_delay = None;
  nanoseconds_per_frame = 166_666_666;
  keep_running_if_progress_is_empty = draw_defaults.keep_running_if_progress_is_empty;
}

-- the options for an output: the default ones, but with what the environment says of the terminal
abbrev pub terminal_options : Bool → Environment → Options
terminal_options is_terminal it = record default_options {
  output_is_terminal = is_terminal && it.shows_frames;
  colored = is_colored it.colors (is_terminal && it.shows_frames);
  terminal_dimensions = (
    unwrap_or it.columns default_options.terminal_dimensions.0,
    unwrap_or it.rows default_options.terminal_dimensions.1,
  );
  ascii = not it.is_utf8;
}

-- These are the options for an output, by an answer to whether it is a terminal, and by what the environment gave.
abbrev pub AreDetected : (Bool → Type 0) → (List ℕ → List ℕ → Type 0) → Options → Type 0
AreDetected answered gave options = (is_terminal : Bool) × (it : Environment)
    × answered is_terminal × IsReadFrom gave it × (options ≡ terminal_options is_terminal it)

-- what one look at a root may show, by how many messages were seen before
abbrev pub Looks : Type 0 → Type 1
Looks Root = Root → Option ℕ → List PathRow → List Message → ℕ → Type 0

-- what a tick may see: nothing without a root, else what one look at the root may show, its rows in strictly ascending order of their paths
abbrev pub ShownBy : {Root : Type 0} → Looks Root → Option Root → Option ℕ → Seen → Type 0
ShownBy looks None previous None = Unit {0}
ShownBy looks (Some root) previous (Some seen) =
    IsAscending (keys_of seen.0) × looks root previous seen.0 seen.1 seen.2
ShownBy looks root previous seen = ⊥

-- what a tick may see of a weak root: what one look at a root shows that it may find
abbrev pub MaySee : {Root : Type 0} → (Option Root → Type 0) → Looks Root → Option ℕ → Seen → Type 0
MaySee {Root} finds looks previous seen =
    (root : Option Root) × finds root × ShownBy looks root previous seen

-- the inputs that an event may give the renderer, by what a tick may see
abbrev pub IsInputFor : EngineEvent → (Seen → Type 0) → Input → Type 0
IsInputFor (Tick at show) sees input = (seen : Seen) × sees seen × (input ≡ inputs.Tick at show seen)
IsInputFor (Resize at show columns rows) sees input = input ≡ inputs.Resize at show columns rows
IsInputFor (Quit at) sees input = input ≡ inputs.Quit at

-- only a tick looks at the root
abbrev pub LooksAtRoot : EngineEvent → Type 0
LooksAtRoot (Tick at show) = Unit {0}
LooksAtRoot _ = ⊥

-- The frame of an input that the event may give is written whole.
abbrev pub AcceptsEvent : EngineEvent → (Seen → Type 0) → Renderer → ScreenState → Answer → Renderer → ScreenState → Type 0
AcceptsEvent event sees r s answer r' s' =
    (input : Input) × IsInputFor event sees input × Accepts r input s answer r' s'

-- The screen breaks during the frame of an input that the event may give.
abbrev pub BreaksAtEvent : EngineEvent → (Seen → Type 0) → Renderer → ScreenState → Renderer → ScreenState → Type 0
BreaksAtEvent event sees r s r' s' =
    (input : Input) × IsInputFor event sees input × Breaks r input s r' s'

-- what a step returns, and what it leaves of the renderer and the screen; by what a tick may see
abbrev pub StepsAt : EngineEvent → (Seen → Type 0) → Renderer → ScreenState → Result Answer Refusal → Renderer → ScreenState → Type 0
StepsAt event sees r s (Ok answer) r' s' = AcceptsEvent event sees r s answer r' s'
StepsAt event sees r s (Err refusals.Memory) r' s' = RunsOutOfMemory r s r' s'
StepsAt event sees r s (Err refusals.TooManyHandles) r' s' = LooksAtRoot event × RunsOutOfMemory r s r' s'
StepsAt event sees r s (Err refusals.Closed) r' s' = Refuses r refusals.Closed s r' s'
StepsAt event sees r s (Err refusals.Broken) r' s' = Refuses r refusals.Broken s r' s' ⊎ BreaksAtEvent event sees r s r' s'
StepsAt event sees r s (Err _) r' s' = ⊥

module _ {S W Root : Type 0} where
  -- what a tick of an engine may see
  abbrev pub EngineSees : (W → Option Root → Type 0) → Looks Root → EngineState S W → Seen → Type 0
  EngineSees finds looks e = MaySee (finds e.weak) looks e.renderer.seen

  -- what a step of an engine returns, and what it leaves of the renderer and the screen
  abbrev pub EngineSteps : (S → ScreenState) → (W → Option Root → Type 0) → Looks Root
      → EngineState S W → EngineEvent → Result Answer Refusal → EngineState S W → Type 0
  EngineSteps state finds looks e event result e' =
      StepsAt event (EngineSees finds looks e) e.renderer (state e.screen) result
      e'.renderer (state e'.screen)
