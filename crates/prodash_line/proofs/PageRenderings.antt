-- What a page shows of the inputs to one renderer.
use Rattle.std.proofs.Common.{◌≡◌, ℕ, zero, suc, ◌^◌, ◌<◌, Bool, true, false, List, [], ◌∷◌, ◌++◌, take, drop, refl, sym, ap, subst, ◌∙◌, append_assoc, Result, Ok, Err, Option, Some, None, ⊎_elim}
use Rattle.std.specs.Prelude.{MatchBool}
use Rattle.std.specs.List.{AllByRecursion}
use Rattle.std.proofs.lemmas.Grind.{flat_map-append}
use Rattle.prodash_base.specs.declared.refusal.Refusal.{Refusal}
use Rattle.prodash_base.specs.declared.refusal.Refusal.TheVariants as refusals
use Rattle.prodash_line.specs.declared.render.line.draw.input.Input.{Input}
use Rattle.prodash_line.specs.declared.render.line.draw.input.Answer.{Answer}
use Rattle.prodash_line.specs.Signs.{spelling_of, spelling}
use Rattle.prodash_line.specs.Lines.{Line}
use Rattle.prodash_line.specs.Frames.{Frame, frame_signs, lines_after, widths_of, signs_of, all_lines_after}
use Rattle.prodash_line.specs.Page.{Canvas}
use Rattle.prodash_line.specs.declared.render.line.draw.action.Action.{Action}
use Rattle.prodash_line.specs.declared.render.line.draw.action.Action.TheVariants.{Leave, Redraw, Erase, Close}
use Rattle.prodash_line.specs.Renderer.{Renderer, Renders, frame_at, action_at, ended_after}
use Rattle.prodash_line.specs.Screens.{ScreenState}
use Rattle.prodash_line.specs.Renderings.{Rendering, after_result, renderer_after, Attempt, attempt_of, attempts_of, frames_of, drawn_frames, bytes_over, WritesAttempts, FitsPage, ShowsFrames}
use Rattle.prodash_line.specs.plumbing.RenderedInputs.{RendersAll}
use Rattle.prodash_line.proofs.FittingFrames.{frames_fit}
use Rattle.prodash_line.proofs.OrderlyFrames.{orderly_frames}
use Rattle.prodash_line.proofs.ProperFrames.{frames_proper}
use Rattle.prodash_line.proofs.PageTheorem.{shows_each_prefix}
use Rattle.prodash_line.proofs.Renderings.{IsBroken, was_unbroken, true_is_not_false, writes_attempts}

-- `Broken` is returned for no frame
abbrev pub AllWritten : List Attempt → Type 0
AllWritten attempts = AllByRecursion (λ attempt. attempt.broken ≡ false) attempts

abbrev pub NotBroken : Option Refusal → Type 0
NotBroken ended = ended ≡ Some refusals.Broken → ⊥

pub running_not_broken : (ended : Option Refusal) → ended ≡ None → NotBroken ended
running_not_broken ended running broken = let clash : None ≡ Some refusals.Broken = sym running ∙ broken in cc

-- neither a frame nor a closing one ends a renderer as broken
not_broken_after : (action : Action) (ended : Option Refusal) → NotBroken ended → NotBroken (ended_after action ended)
not_broken_after Leave ended n = n
not_broken_after Redraw ended n = n
not_broken_after Erase ended n = n
not_broken_after Close ended n = λ broken. subst IsBroken (sym broken) tt

all_written_step : (r : Renderer) (s : ScreenState) (input : Input) (result : Result Answer Refusal) (s₁ : ScreenState) (attempts : List Attempt) → NotBroken r.ended
    → Renders r input s result (after_result r input result) s₁ → s₁.broken ≡ false → (NotBroken (after_result r input result).ended → AllWritten attempts)
    → AllWritten (attempt_of (frame_at r input) result ++ attempts)
all_written_step r s input (Ok answer) s₁ attempts n h whole more = (refl, more (not_broken_after (action_at r input) r.ended n))
all_written_step r s input (Err refusals.Memory) s₁ attempts n h whole more = more n
all_written_step r s input (Err refusals.Closed) s₁ attempts n h whole more = more n
all_written_step r s input (Err refusals.Broken) s₁ attempts n h whole more = absurd (⊎_elim (λ refuses. n refuses.ended) (λ breaks. true_is_not_false s₁.broken breaks.screen.broken whole) h)
all_written_step r s input (Err refusals.Gone) s₁ attempts n h whole more = absurd h
all_written_step r s input (Err refusals.TooManyMessages) s₁ attempts n h whole more = absurd h
all_written_step r s input (Err refusals.TooManyHandles) s₁ attempts n h whole more = absurd h
all_written_step r s input (Err refusals.NoThread) s₁ attempts n h whole more = absurd h

-- on a screen that isn't broken every frame is written
pub all_written : (r : Renderer) (s : ScreenState) (xs : List Rendering) (s' : ScreenState) → RendersAll r s xs s' → NotBroken r.ended → s'.broken ≡ false → AllWritten (attempts_of r xs)
all_written r s [] s' h n whole = tt
all_written r s (x ∷ xs) s' h n whole =
    all_written_step r s x.input x.result h.0 (attempts_of (renderer_after r x) xs) n h.1 (was_unbroken (renderer_after r x) h.0 xs s' h.3 whole)
    (λ others. all_written (renderer_after r x) h.0 xs s' h.3 others whole)

is_written : (b : Bool) (P Q : Type 0) → b ≡ false → MatchBool b P Q → Q
is_written true P Q e m = cc
is_written false P Q e m = m

-- what frames write if all are written
pub writes_signs : (lines : List Line) (attempts : List Attempt) (bytes : List ℕ) → AllWritten attempts → WritesAttempts lines attempts bytes → bytes ≡ spelling (signs_of lines (frames_of attempts))
writes_signs lines [] bytes a h = h
writes_signs lines (attempt ∷ attempts) bytes a h =
    let first = is_written attempt.broken _ _ a.0 h in
    first.1 ∙ ap (λ t. bytes_over lines attempt.frame ++ t) (writes_signs (lines_after lines attempt.frame) attempts first.0 a.1 first.2)
    ∙ sym (flat_map-append spelling_of (frame_signs (widths_of lines) attempt.frame) (signs_of (lines_after lines attempt.frame) (frames_of attempts)))

-- the signs of the first j frames, and those of the others
pub signs_of-take : (j : ℕ) (lines : List Line) (frames : List Frame)
    → signs_of lines frames ≡ signs_of lines (take j frames) ++ signs_of (all_lines_after lines (take j frames)) (drop j frames)
signs_of-take zero lines frames = refl
signs_of-take (suc j) lines [] = refl
signs_of-take (suc j) lines (f ∷ frames) =
    ap (λ t. frame_signs (widths_of lines) f ++ t) (signs_of-take j (lines_after lines f) frames)
    ∙ sym (append_assoc (frame_signs (widths_of lines) f) (signs_of (lines_after lines f) (take j frames)) (signs_of (all_lines_after (lines_after lines f) (take j frames)) (drop j frames)))

-- a page on which everything fits shows the frames
pub shows_on_page : (r : Renderer) (s : ScreenState) (xs : List Rendering) (s' : ScreenState) (above : List (List ℕ)) (page : Canvas) → RendersAll r s xs s'
    → r.widths ≡ [] → r.ended ≡ None → r.options.terminal_dimensions.1 < 2 ^ 16 → FitsPage r xs s'.broken above page → ShowsFrames s.bytes s'.bytes (drawn_frames r xs) above page
shows_on_page r s xs s' above page h none running low fits =
    let frames = drawn_frames r xs in
    let each = frames_fit r xs page.columns page.height fits.columns fits.sizes fits.each in
    let height : page.height < 2 ^ 16 = subst (λ n. n < 2 ^ 16) (sym fits.height) low in
    let writes = writes_attempts r s xs s' [] h none in
    let all = all_written r s xs s' h (running_not_broken r.ended running) fits.unbroken in
    record {
      written = writes.1 ∙ ap (λ bytes. s.bytes ++ bytes) (writes_signs [] (attempts_of r xs) writes.0 all writes.2);
      proper = frames_proper page.columns page.height [] frames each (orderly_frames r xs);
      prefix = λ j. (signs_of (all_lines_after [] (take j frames)) (drop j frames), signs_of-take j [] frames);
      shows = λ j. shows_each_prefix r xs page above j height fits.begins each;
    }
