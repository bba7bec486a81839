-- What an engine hands to its renderer: the options of frames, and an input.
use Rattle.std.specs.Prelude.{ℕ, List, Option, Some, Result}
use Rattle.std.specs.Global.{Vec}
use Rattle.prodash_base.specs.Rows.{PathRow}
use Rattle.prodash_base.specs.Steps.{OfSeenSteps}
use Rattle.prodash_base.specs.declared.messages.Message.{Message}
use Rattle.prodash_base.specs.declared.refusal.Refusal.{Refusal}
use Rattle.prodash_line.specs.declared.render.line.draw.input.Input.{Input}
use Rattle.prodash_line.specs.declared.render.line.draw.input.Answer.{Answer}
use Rattle.prodash_line.specs.declared.render.line.draw.input.Options.{Options as DrawOptions}
use Rattle.prodash_line.specs.Renderer.{Renderer, Renders, latest_rows}
use Rattle.prodash_line.specs.Screens.{ScreenState}
use Rattle.prodash.specs.declared.render.line.engine.options.Options.{Options}
use Rattle.prodash.specs.Engines.{EngineState, Looks, ShownBy}

-- those of the options that decide what a frame is
abbrev pub draw_options : Options → DrawOptions
draw_options o = record {
  level_filter = o.level_filter;
  terminal_dimensions = o.terminal_dimensions;
  keep_running_if_progress_is_empty = o.keep_running_if_progress_is_empty;
  output_is_terminal = o.output_is_terminal;
  colored = o.colored;
  timestamp = o.timestamp;
  hide_cursor = o.hide_cursor;
  defensive = o.defensive;
  synchronized = o.synchronized;
  whole_messages = o.whole_messages;
  bare_without_origin = o.bare_without_origin;
  bar_columns = o.bar_columns;
  ascii = o.ascii;
  times = o.times;
  prefer_running = o.prefer_running;
}

-- what one look at a root shows to a renderer
abbrev pub SeesRoot : {Root : Type 0} → Looks Root → Root → Renderer → List PathRow × List Message × ℕ → Type 0
SeesRoot looks root r seen = ShownBy looks (Some root) r.seen (Some seen)

-- the same of a look that returned the steps of the remembered rows, if it returned any
abbrev pub SeesSteps : {Root : Type 0} → Looks Root → Root → Renderer → Option (Vec ℕ × List Message × ℕ) → Type 0
SeesSteps looks root r = OfSeenSteps (λ rows messages sent. SeesRoot looks root r (rows, messages, sent)) (latest_rows r.last_rows)

module _ {S W : Type 0} where
  -- what an engine returns for an input, and what it leaves of the renderer and the screen
  abbrev pub EngineRenders : (S → ScreenState) → EngineState S W → Input → Result Answer Refusal
      → EngineState S W → Type 0
  EngineRenders state e input result e' =
      Renders e.renderer input (state e.screen) result e'.renderer (state e'.screen)
