-- A step of the engine that hands on to the renderer.
use Rattle.std.proofs.Common.{ℕ, List, Bool, Option, Some, None, Result, Ok, Err, ⊎_elim, inl, inr, refl}
use Rattle.prodash_base.specs.Rows.{PathRow}
use Rattle.prodash_base.specs.declared.messages.Message.{Message}
use Rattle.prodash_base.specs.declared.refusal.Refusal.{Refusal}
use Rattle.prodash_base.specs.declared.refusal.Refusal.TheVariants as refusals
use Rattle.prodash_line.specs.declared.render.line.draw.input.Input.{Input}
use Rattle.prodash_line.specs.declared.render.line.draw.input.Input.TheVariants as inputs
use Rattle.prodash_line.specs.declared.render.line.draw.input.Answer.{Answer}
use Rattle.prodash_line.specs.Renderer.{Renderer, Seen, Renders}
use Rattle.prodash_line.specs.Screens.{ScreenState}
use Rattle.prodash.specs.declared.render.line.engine.event.EngineEvent.{EngineEvent}
use Rattle.prodash.specs.declared.render.line.engine.event.EngineEvent.TheVariants.{Tick}
use Rattle.prodash.specs.Engines.{EngineSees, EngineState, EngineSteps, IsInputFor, Looks, StepsAt}
use Rattle.prodash.specs.plumbing.EngineFrames.{EngineRenders, SeesRoot}

-- what the renderer does with an input that the event may give is a step
pub steps_by_frame : (event : EngineEvent) (sees : Seen → Type 0) (r : Renderer) (s : ScreenState) (input : Input) (result : Result Answer Refusal) (r' : Renderer) (s' : ScreenState)
    → IsInputFor event sees input → Renders r input s result r' s' → StepsAt event sees r s result r' s'
steps_by_frame event sees r s input (Ok answer) r' s' may h = (input, may, h)
steps_by_frame event sees r s input (Err refusals.Memory) r' s' may h = h
steps_by_frame event sees r s input (Err refusals.TooManyMessages) r' s' may h = absurd h
steps_by_frame event sees r s input (Err refusals.TooManyHandles) r' s' may h = absurd h
steps_by_frame event sees r s input (Err refusals.NoThread) r' s' may h = absurd h
steps_by_frame event sees r s input (Err refusals.Gone) r' s' may h = absurd h
steps_by_frame event sees r s input (Err refusals.Closed) r' s' may h = h
steps_by_frame event sees r s input (Err refusals.Broken) r' s' may h = ⊎_elim (λ a. inl a) (λ b. inr (input, may, b)) h

module _ {S W Root : Type 0} where
  -- a tick that finds no root draws the closing frame
  pub steps_without_root : (state : S → ScreenState) (finds : W → Option Root → Type 0) (looks : Looks Root)
      (at : ℕ) (show : Bool) (e : EngineState S W) (result : Result Answer Refusal) (e' : EngineState S W)
      → finds e.weak None → EngineRenders state e (inputs.Tick at show None) result e'
      → EngineSteps state finds looks e (Tick at show) result e'
  steps_without_root state finds looks at show e result e' found h =
      steps_by_frame (Tick at show) (EngineSees finds looks e) e.renderer (state e.screen) (inputs.Tick at show None)
      result e'.renderer (state e'.screen) (None, (None, found, tt), refl) h

  -- a tick that finds a root draws the frame of what one look at it shows
  pub steps_with_root : (state : S → ScreenState) (finds : W → Option Root → Type 0) (looks : Looks Root)
      (at : ℕ) (show : Bool) (root : Root) (seen : List PathRow × List Message × ℕ)
      (e : EngineState S W) (result : Result Answer Refusal) (e' : EngineState S W)
      → finds e.weak (Some root) → SeesRoot looks root e.renderer seen
      → EngineRenders state e (inputs.Tick at show (Some seen)) result e'
      → EngineSteps state finds looks e (Tick at show) result e'
  steps_with_root state finds looks at show root seen e result e' found sees h =
      steps_by_frame (Tick at show) (EngineSees finds looks e) e.renderer (state e.screen) (inputs.Tick at show (Some seen))
      result e'.renderer (state e'.screen) (Some seen, (Some root, found, sees), refl) h

-- a tick draws what its look shows
pub ruleset ticking = (steps_without_root, steps_with_root)
