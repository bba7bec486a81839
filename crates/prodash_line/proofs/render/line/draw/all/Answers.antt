use Rattle.std.proofs.Common.{rules}
use Rattle.prodash_base.specs.declared.refusal.Refusal.{Refusal}
use Rattle.prodash_line.specs.declared.render.line.draw.input.Answer.{Answer}
use Rattle.prodash_line.specs.declared.render.line.draw.input.Input.{Input}
use Rattle.prodash_line.specs.SafeFrames.{DrawsSafely}
use Rattle.prodash_line.specs.ErasedPages.{ErasesPages}
use Rattle.prodash_line.specs.Renderer.{Renderer, Renders}
use Rattle.prodash_line.specs.Screens.{ScreenState}
use Rattle.std.specs.Prelude.{Result}
use Rattle.prodash_line.proofs.ErasedRenderings.{erases_pages}
use Rattle.prodash_line.proofs.SafeFrames.{draws_safely}
use Rattle.prodash_line.proofs.render.line.draw.all.Goals as goal

-- what is rendered has the promises of pages and of safe lines
drawn : (r : Renderer) (input : Input) (s : ScreenState) (result : Result Answer Refusal) (r' : Renderer) (s' : ScreenState) → Renders r input s result r' s' → record { frame : Renders r input s result r' s'; page : ErasesPages r input s result s'; safe : DrawsSafely r input s result s' }
drawn r input s result r' s' frame = record {
  frame = frame;
  page = erases_pages r input s result r' s' frame;
  safe = draws_safely r input s result r' s' frame;
}

pub returns-in-Tick-default-default-Some : goal.returns-in-Tick-default-default-Some
returns-in-Tick-default-default-Some g c = drawn _ _ _ _ _ _ (search rules)

pub returns-in-Tick-default-default-None : goal.returns-in-Tick-default-default-None
returns-in-Tick-default-default-None g c = drawn _ _ _ _ _ _ (search rules)

pub returns-in-Resize : goal.returns-in-Resize
returns-in-Resize g c = drawn _ _ _ _ _ _ (search rules)

pub returns-in-Quit : goal.returns-in-Quit
returns-in-Quit g c = drawn _ _ _ _ _ _ (search rules)
