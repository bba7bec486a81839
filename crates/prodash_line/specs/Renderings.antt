-- A list of inputs to one renderer: what they write, and what a page shows of them.
use Rattle.std.specs.Prelude.{◌≡◌, ℕ, Bool, true, false, ⊤, List, [], ◌∷◌, ◌++◌, map, take, Some, None, IsTrue, MatchBool, Result, Ok, Err, ◌⊎◌, ◌↔◌}
use Rattle.std.specs.List.{AllByRecursion}
use Rattle.prodash_base.specs.declared.refusal.Refusal.{Refusal}
use Rattle.prodash_base.specs.declared.refusal.Refusal.TheVariants as refusals
use Rattle.prodash_line.specs.declared.render.line.draw.input.Input.{Input}
use Rattle.prodash_line.specs.declared.render.line.draw.input.Input.TheVariants.{Resize}
use Rattle.prodash_line.specs.declared.render.line.draw.input.Answer.{Answer}
use Rattle.prodash_line.specs.declared.render.line.page.sign.Sign.{Sign}
use Rattle.prodash_line.specs.Signs.{spelling}
use Rattle.prodash_line.specs.Lines.{Line}
use Rattle.prodash_line.specs.Frames.{Frame, frame_signs, lines_after, widths_of, signs_of, all_lines_after, printed_lines}
use Rattle.prodash_line.specs.Renderer.{Renderer, Renders, frame_at, frame_bytes, next_renderer}
use Rattle.prodash_line.specs.Screens.{ScreenState, has_bytes}
use Rattle.prodash_line.specs.Page.{Canvas, page_after}
use Rattle.prodash_line.specs.Reading.{AreProper}
use Rattle.prodash_line.specs.Shows.{Shows, cells_of}
use Rattle.prodash_line.specs.Fits.{FrameFits}

-- an input, and what was returned for it
pub record Rendering : Type 0 where
  pub input : Input
  pub result : Result Answer Refusal

-- the renderer after an input, by what was returned for it
abbrev pub after_result : Renderer → Input → Result Answer Refusal → Renderer
after_result r input (Ok answer) = next_renderer r input
after_result r input (Err refusals.Broken) = record r { ended = Some refusals.Broken }
after_result r input (Err refusal) = r

-- the renderer after an input for which this was returned
abbrev pub renderer_after : Renderer → Rendering → Renderer
renderer_after r x = after_result r x.input x.result

-- The inputs are rendered one after another, each from the renderer that those before it leave. For each the relation holds between the
-- renderer and the screen before it, the input with what was returned, and the screen after it.
abbrev pub RendersEach : (Renderer → ScreenState → Rendering → ScreenState → Type 0) → Renderer → ScreenState → List Rendering → ScreenState → Type 0
RendersEach P r s [] s' = s' ≡ s
RendersEach P r s (x ∷ xs) s' =
    (s₁ : ScreenState) × Renders r x.input s x.result (renderer_after r x) s₁ × P r s x s₁ × RendersEach P (renderer_after r x) s₁ xs s'

-- the screen breaks now: it is broken after a frame that has bytes, and the renderer had not ended and was not out of memory
pub record BreaksNow (r : Renderer) (x : Rendering) (s' : ScreenState) : Type 0 where
  pub running : r.ended ≡ None
  pub memory : x.result ≡ Err refusals.Memory → ⊥
  pub some : IsTrue (has_bytes (frame_bytes r x.input))
  pub broken : s'.broken ≡ true

-- `Broken` is returned exactly if it was returned for an input before, or the screen breaks now
abbrev pub BreaksExactly : Renderer → ScreenState → Rendering → ScreenState → Type 0
BreaksExactly r s x s' = (x.result ≡ Err refusals.Broken) ↔ ((r.ended ≡ Some refusals.Broken) ⊎ BreaksNow r x s')

-- an accepted frame with bytes is flushed, with all that the screen took before
pub record FlushesFrame (r : Renderer) (s : ScreenState) (x : Rendering) (s' : ScreenState) : Type 0 where
  pub flushed : (answer : Answer) → x.result ≡ Ok answer → IsTrue (has_bytes (frame_bytes r x.input)) → s'.flushed ≡ s'.bytes

-- a frame that was begun, and whether `Broken` was returned
pub record Attempt : Type 0 where
  pub frame : Frame
  pub broken : Bool

-- the attempt at a frame, by what was returned; none if the renderer was closed or out of memory
abbrev pub attempt_of : Frame → Result Answer Refusal → List Attempt
attempt_of frame (Ok answer) = record { frame = frame; broken = false } ∷ []
attempt_of frame (Err refusals.Broken) = record { frame = frame; broken = true } ∷ []
attempt_of frame (Err refusal) = []

-- the frames of the inputs, without those for which the renderer was closed or out of memory
abbrev pub attempts_of : Renderer → List Rendering → List Attempt
attempts_of r [] = []
attempts_of r (x ∷ xs) = attempt_of (frame_at r x.input) x.result ++ attempts_of (renderer_after r x) xs

-- the frames of attempts
abbrev pub frames_of : List Attempt → List Frame
frames_of attempts = map (λ attempt. attempt.frame) attempts

-- the bytes of a frame over the lines on screen
abbrev pub bytes_over : List Line → Frame → List ℕ
bytes_over lines frame = spelling (frame_signs (widths_of lines) frame)

-- `Broken` is returned for each frame
abbrev pub AllBroken : List Attempt → Type 0
AllBroken attempts = AllByRecursion (λ attempt. IsTrue attempt.broken) attempts

-- What frames write, over the lines on screen: each frame whole; but of the first for which `Broken` is returned a prefix, and then nothing,
-- since `Broken` is returned for each later one too.
abbrev pub WritesAttempts : List Line → List Attempt → List ℕ → Type 0
WritesAttempts lines [] bytes = bytes ≡ []
WritesAttempts lines (attempt ∷ attempts) bytes =
    MatchBool attempt.broken ((n : ℕ) × (bytes ≡ take n (bytes_over lines attempt.frame)) × AllBroken attempts)
    ((rest : List ℕ) × (bytes ≡ bytes_over lines attempt.frame ++ rest) × WritesAttempts (lines_after lines attempt.frame) attempts rest)

-- the frames of the inputs
abbrev pub drawn_frames : Renderer → List Rendering → List Frame
drawn_frames r xs = frames_of (attempts_of r xs)

-- any input but a resize to another size
abbrev pub KeepsSize : ℕ → ℕ → Input → Type 0
KeepsSize columns height (Resize at show width rows) = (width ≡ columns) × (rows ≡ height)
KeepsSize columns height _ = ⊤

-- Everything fits: the page has the size that the renderer's options say, and no input sets another; it begins with these rows above the
-- cursor; the cursor is at column 0 inside the window, and each row from its own down is blank; each frame fits the page; and the screen isn't
-- broken afterwards.
pub record FitsPage (r : Renderer) (xs : List Rendering) (broken : Bool) (above : List (List ℕ)) (page : Canvas) : Type 0 where
  pub columns : page.columns ≡ r.options.terminal_dimensions.0
  pub height : page.height ≡ r.options.terminal_dimensions.1
  pub sizes : AllByRecursion (λ x. KeepsSize page.columns page.height x.input) xs
  pub begins : Shows above [] page
  pub each : AllByRecursion (FrameFits r.options.output_is_terminal page.columns page.height) (drawn_frames r xs)
  pub unbroken : broken ≡ false

-- What is written is the spelling of the frames' signs, which are proper, so that reading it gives them. After each prefix of the frames the
-- page shows the rows above as they were, then the messages printed so far, then the lines on screen, then blank rows.
pub record ShowsFrames (old new : List ℕ) (frames : List Frame) (above : List (List ℕ)) (page : Canvas) : Type 0 where
  pub written : new ≡ old ++ spelling (signs_of [] frames)
  pub proper : AreProper (signs_of [] frames)
  pub prefix : (j : ℕ) → (rest : List Sign) × (signs_of [] frames ≡ signs_of [] (take j frames) ++ rest)
  pub shows : (j : ℕ) → Shows (above ++ map (cells_of page.columns) (printed_lines (take j frames))) (all_lines_after [] (take j frames)) (page_after (signs_of [] (take j frames)) page)
