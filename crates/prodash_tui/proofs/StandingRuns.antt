-- What a display with other widths shows over a run of a dashboard.
use Rattle.std.proofs.Common.{◌≡◌, ℕ, true, false, Option, Some, None, List, [], ◌∷◌, ◌++◌, refl, sym, subst, ◌∙◌}
use Rattle.std.specs.Prelude.{⊤, unwrap_or}
use Rattle.std.specs.Option.{option_map}
use Rattle.prodash_line.specs.CellRows.{char_columns}
use Rattle.prodash_tui.specs.declared.dashboard.contents.Contents.{Contents}
use Rattle.prodash_tui.specs.Boards.{next_grid, opening}
use Rattle.prodash_tui.specs.BoardRuns.{Draws, Handles, HasToldSize, Resizes, Run, Step, after_drawing, after_step, after_steps}
use Rattle.prodash_tui.specs.Displays.{Display, after_signs}
use Rattle.prodash_tui.specs.Grids.{Sheet}
use Rattle.prodash_tui.specs.OtherWidths.{AreWidths, HasOnlyOwn, StandsFor}
use Rattle.prodash_tui.specs.Screens.{Buffers, Fits, blank_buffers, enter, frame, with_next}
use Rattle.prodash_tui.proofs.PlayedChanges.{after_append}
use Rattle.prodash_tui.proofs.ShownRuns.{handled_stays, next_fits, next_size}
use Rattle.prodash_tui.proofs.StandingFrames.{shows_only, stands_frame}

-- a display that doesn't wrap stands for the grid that the screen drew last, if it is known to show that
abbrev Known : Option Buffers → Display → Type 0
Known None d = ⊤
Known (Some b) d = (d.wraps ≡ false) × (b.is_shown ≡ true → StandsFor d b.front)

-- after a frame of a grid that fits it stands for that
frame_left : (columns : ℕ → ℕ) → AreWidths columns → (screen : Option Buffers) (width height : ℕ) (d : Display) (g : Sheet) → Known screen d → Fits char_columns d g
    → StandsFor (after_signs columns (opening screen ++ frame (with_next g (unwrap_or screen (blank_buffers width height)))) d) g
frame_left columns widths None width height d g known fits =
    let b = with_next g (blank_buffers width height) in
    subst (λ (e : Display). StandsFor e g) (sym (after_append columns enter (frame b) d))
    (stands_frame columns widths b (after_signs columns enter d) refl (λ is. cc) (record { width = fits.size.width; height = fits.size.height }) fits.proper)
frame_left columns widths (Some b) width height d g known fits = stands_frame columns widths (with_next g b) d known.0 known.1 fits.size fits.proper

-- what is known of a run between its steps
record Follows (r : Run) : Type 0 where
  size : HasToldSize r
  known : Known r.board.screen r.display

drawing_left : (columns : ℕ → ℕ) → AreWidths columns → (r : Run) (c : Contents) → Follows r → StandsFor (after_drawing columns c r).display (next_grid r.board c)
drawing_left columns widths r c follows =
    frame_left columns widths r.board.screen r.board.width r.board.height r.display (next_grid r.board c) follows.known
    (next_fits r.board c r.display follows.size.width follows.size.height)

-- of a screen that has taken another size nothing is known to be shown
resized_known : (screen : Option Buffers) (width height : ℕ) (d e : Display) → e.wraps ≡ d.wraps → Known screen d → Known (option_map (λ b. blank_buffers width height) screen) e
resized_known None width height d e wraps known = tt
resized_known (Some b) width height d e wraps known = (wraps ∙ known.0, λ is. cc)

step_follows : (columns : ℕ → ℕ) → AreWidths columns → (s : Step) (r : Run) → Follows r → Follows (after_step columns s r)
step_follows columns widths (Handles e) r follows =
    let stays = handled_stays r.board e in
    record {
      size = record { width = follows.size.width ∙ stays.width; height = follows.size.height ∙ stays.height };
      known = subst (λ (screen : Option Buffers). Known screen r.display) stays.screen follows.known;
    }
step_follows columns widths (Resizes g cursor) r follows = record {
  size = record { width = refl; height = refl };
  known = resized_known r.board.screen g.width g.height r.display (record r.display { grid = g; cursor = cursor }) refl follows.known;
}
step_follows columns widths (Draws c) r follows =
    let left = drawing_left columns widths r c follows in
    let told = next_size r.board c in
    record {
      size = record { width = left.size.width ∙ told.width; height = left.size.height ∙ told.height };
      known = (left.unwrapped, λ _. left);
    }

steps_follow : (columns : ℕ → ℕ) → AreWidths columns → (steps : List Step) (r : Run) → Follows r → Follows (after_steps columns steps r)
steps_follow columns widths [] r follows = follows
steps_follow columns widths (s ∷ steps) r follows = steps_follow columns widths steps (after_step columns s r) (step_follows columns widths s r follows)

pub has_only_own : (columns : ℕ → ℕ) → AreWidths columns → HasOnlyOwn columns
has_only_own columns widths r steps c none size =
    let known : Known r.board.screen r.display = subst (λ (screen : Option Buffers). Known screen r.display) (sym none) tt in
    let last = after_steps columns steps r in
    shows_only (after_drawing columns c last).display (next_grid last.board c)
    (drawing_left columns widths last c (steps_follow columns widths steps r (record { size = size; known = known })))
