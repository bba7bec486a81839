-- Inputs that are rendered one after another, whatever holds of each.
use Rattle.prodash_line.specs.Renderer.{Renderer}
use Rattle.prodash_line.specs.Renderings.{Rendering, RendersEach}
use Rattle.prodash_line.specs.Screens.{ScreenState}
use Rattle.std.specs.Prelude.{List, ⊤}

-- the inputs are rendered one after another
abbrev pub RendersAll : Renderer → ScreenState → List Rendering → ScreenState → Type 0
RendersAll = RendersEach (λ _ _ _ _. ⊤)
