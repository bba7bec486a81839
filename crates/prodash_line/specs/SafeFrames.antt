-- Frames whose lines have no unsafe characters.
use Rattle.std.specs.Prelude.{◌≡◌, ℕ, true, false, List, [], ◌++◌, Result, OnOk}
use Rattle.std.specs.List.{AllByRecursion}
use Rattle.prodash_line.specs.UnsafeCharacters.{is_unsafe}
use Rattle.prodash_base.specs.declared.refusal.Refusal.{Refusal}
use Rattle.prodash_line.specs.declared.render.line.draw.input.Answer.{Answer}
use Rattle.prodash_line.specs.declared.render.line.draw.input.Input.{Input}
use Rattle.prodash_line.specs.Lines.{Line}
use Rattle.prodash_line.specs.Frames.{Frame, body_lines, frame_signs}
use Rattle.prodash_line.specs.Signs.{spelling}
use Rattle.prodash_line.specs.Renderer.{Renderer, frame_at}
use Rattle.prodash_line.specs.Renderings.{Rendering}
use Rattle.prodash_line.specs.Screens.{ScreenState}

-- no text of a line has an unsafe character
abbrev pub IsSafe : Line → Type 0
IsSafe line = AllByRecursion (λ p. AllByRecursion (λ c. is_unsafe c ≡ false) p.text) line

-- nor has any line that a frame prints or draws
pub record HasSafeLines (f : Frame) : Type 0 where
  pub messages : AllByRecursion IsSafe f.messages
  pub drawn : AllByRecursion IsSafe (body_lines [] f.body)

-- the frame is written, and no line of it has an unsafe character
pub record WritesSafely (widths : List ℕ) (f : Frame) (old new : List ℕ) : Type 0 where
  pub written : new ≡ old ++ spelling (frame_signs widths f)
  pub clean : HasSafeLines f

-- on success, if the renderer is defensive, so it is with its frame of an input, whatever the texts of the input are
abbrev pub DrawsSafely : Renderer → Input → ScreenState → Result Answer Refusal → ScreenState → Type 0
DrawsSafely r input s result s' =
    OnOk result (r.options.defensive ≡ true → WritesSafely r.widths (frame_at r input) s.bytes s'.bytes)

-- the same of a screen, given what a screen's state is
abbrev pub DrawsSafelyOn : {S : Type 0} → (S → ScreenState) → Renderer → Input → S → Result Answer Refusal → S → Type 0
DrawsSafelyOn state r input s result s' = DrawsSafely r input (state s) result (state s')

-- the same of an input that is rendered
abbrev pub DrawsSafelyOf : Renderer → ScreenState → Rendering → ScreenState → Type 0
DrawsSafelyOf r s x s' = DrawsSafely r x.input s x.result s'
