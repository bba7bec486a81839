-- What a display shows over a run of a dashboard.
use Rattle.std.proofs.Common.{◌≡◌, ℕ, Bool, true, false, cond, Option, Some, None, List, [], ◌∷◌, ◌++◌, refl, sym, ap, subst, ◌∙◌}
use Rattle.std.specs.Prelude.{⊤, is_some, unwrap_or}
use Rattle.std.specs.Option.{option_map}
use Rattle.prodash_base.specs.Rows.{rows_of}
use Rattle.prodash_core.specs.declared.render.tui.event.Answer.{Answer}
use Rattle.prodash_core.specs.declared.render.tui.event.Answer.TheVariants.{Stop}
use Rattle.prodash_core.specs.declared.render.tui.event.Event.{Event}
use Rattle.prodash_core.specs.Dashboard.{handle}
use Rattle.prodash_line.specs.CellRows.{char_columns}
use Rattle.prodash_tui.specs.declared.dashboard.contents.Contents.{Contents}
use Rattle.prodash_tui.specs.declared.sign.Sign.{Sign}
use Rattle.prodash_tui.specs.Cells.{plain}
use Rattle.prodash_tui.specs.Dashboards.{scroll_of, with_task_pane}
use Rattle.prodash_tui.specs.Displays.{Display, after_signs}
use Rattle.prodash_tui.specs.Grids.{Sheet, blank_sheet}
use Rattle.prodash_tui.specs.Screens.{Agrees, Buffers, Fits, blank_buffers, enter, frame, with_next}
use Rattle.prodash_tui.specs.BoardRuns.{HasToldSize, Run, ShowsEachFrame, ShowsMainAgain, Step, Handles, Resizes, Draws, after_drawing, after_step, after_steps}
use Rattle.prodash_tui.specs.Boards.{Board, area_of, closing, handled, handled_running, input_of, is_running, next_grid, opening, rates_in}
use Rattle.prodash_tui.proofs.FittingGrids.{fitting}
use Rattle.prodash_tui.proofs.KeptPanes.{kept_dashboard}
use Rattle.prodash_tui.proofs.KeptProgress.{kept_pane}
use Rattle.prodash_tui.proofs.PlayedChanges.{after_append}
use Rattle.prodash_tui.proofs.ProperGrids.{proper_blank}
use Rattle.prodash_tui.proofs.ProperRows.{space_columns}
use Rattle.prodash_tui.proofs.ShownScreens.{Kept, after_grid, draws_frame, fits_more, frame_stays, left_again, signs_keep}

-- the grids of a screen, a new one of this size if there is none, with this one drawn next
abbrev next : Option Buffers → ℕ → ℕ → Sheet → Buffers
next screen width height g = with_next g (unwrap_or screen (blank_buffers width height))

-- the signs of a frame of this grid
abbrev signs : Option Buffers → ℕ → ℕ → Sheet → List Sign
signs screen width height g = opening screen ++ frame (next screen width height g)

-- ---- each frame is shown

-- a display shows the grid that the screen drew last, if it is known to
abbrev Agree : Option Buffers → Display → Type 0
Agree None d = ⊤
Agree (Some b) d = Agrees char_columns b d

-- a frame of a grid that fits is shown
frame_shows : (screen : Option Buffers) (width height : ℕ) (d : Display) (g : Sheet) → Agree screen d → Fits char_columns d g
    → (after_signs char_columns (signs screen width height g) d).grid ≡ g
frame_shows None width height d g agrees fits =
    let b = with_next g (blank_buffers width height) in
    let start = after_signs char_columns enter d in
    after_grid char_columns enter (frame b) d
    ∙ draws_frame char_columns space_columns b start (λ is. cc) (fits_more char_columns d start g refl refl fits)
frame_shows (Some b) width height d g agrees fits = draws_frame char_columns space_columns (with_next g b) d agrees fits

-- what is known of a run between its steps
record Follows (r : Run) : Type 0 where
  size : HasToldSize r
  agrees : Agree r.board.screen r.display

-- the next grid fits a display of the size that the dashboard was told
pub next_fits : (s : Board) (c : Contents) (d : Display) → d.grid.width ≡ s.width → d.grid.height ≡ s.height → Fits char_columns d (next_grid s c)
next_fits s c d width height =
    let input = input_of s c in
    kept_dashboard (fitting d) (with_task_pane (rates_in s c) input s.state.task_offset)
    (λ area g h. kept_pane (fitting d) (rows_of input.rows.now) (rates_in s c) input.at (scroll_of input s.state.task_offset) area g h) s.state input (area_of s)
    (blank_sheet s.width s.height)
    (record { proper = proper_blank char_columns space_columns s.width s.height; size = record { width = width; height = height } })

-- a grid has the size of the terminal
pub record HasTerminalSize (s : Board) (g : Sheet) : Type 0 where
  pub width : g.width ≡ s.width
  pub height : g.height ≡ s.height

-- so does the next one
pub next_size : (s : Board) (c : Contents) → HasTerminalSize s (next_grid s c)
next_size s c =
    let d : Display = record {
      grid = blank_sheet s.width s.height;
      cursor = record { row = 0; column = 0; style = plain };
      main = None;
      shows_cursor = true;
      wraps = true;
    } in
    let size = (next_fits s c d refl refl).size in
    record { width = sym size.width; height = sym size.height }

-- a frame of a run is shown
drawing_shows : (r : Run) (c : Contents) → Follows r → (after_drawing char_columns c r).display.grid ≡ next_grid r.board c
drawing_shows r c follows =
    frame_shows r.board.screen r.board.width r.board.height r.display (next_grid r.board c) follows.agrees
    (next_fits r.board c r.display follows.size.width follows.size.height)

-- an event changes neither the size nor the screen
pub record Stays (s t : Board) : Type 0 where
  pub width : s.width ≡ t.width
  pub height : s.height ≡ t.height
  pub screen : s.screen ≡ t.screen

either_stays : (running : Bool) (a b : Board × Answer) (s : Board) → Stays s a.0 → Stays s b.0 → Stays s (cond running a b).0
either_stays true a b s first second = first
either_stays false a b s first second = second

pub handled_stays : (s : Board) (e : Event) → Stays s (handled s e).0
handled_stays s e =
    either_stays (is_running s) (handled_running s (handle s.state e)) (s, Stop) s (record { width = refl; height = refl; screen = refl })
    (record { width = refl; height = refl; screen = refl })

-- a screen that has taken another size agrees with any display
resized_agrees : (screen : Option Buffers) (width height : ℕ) (d : Display) → Agree (option_map (λ b. blank_buffers width height) screen) d
resized_agrees None width height d = tt
resized_agrees (Some b) width height d = λ is. cc

step_follows : (s : Step) (r : Run) → Follows r → Follows (after_step char_columns s r)
step_follows (Handles e) r follows =
    let stays = handled_stays r.board e in
    record {
      size = record { width = follows.size.width ∙ stays.width; height = follows.size.height ∙ stays.height };
      agrees = subst (λ (screen : Option Buffers). Agree screen r.display) stays.screen follows.agrees;
    }
step_follows (Resizes g cursor) r follows = record {
  size = record { width = refl; height = refl };
  agrees = resized_agrees r.board.screen g.width g.height (record r.display { grid = g; cursor = cursor });
}
step_follows (Draws c) r follows =
    let fits = next_fits r.board c r.display follows.size.width follows.size.height in
    let shown = drawing_shows r c follows in
    record {
      size = record {
        width = ap (λ (g : Sheet). g.width) shown ∙ sym fits.size.width ∙ follows.size.width;
        height = ap (λ (g : Sheet). g.height) shown ∙ sym fits.size.height ∙ follows.size.height;
      };
      agrees = λ _. (fits.proper, shown);
    }

steps_follow : (steps : List Step) (r : Run) → Follows r → Follows (after_steps char_columns steps r)
steps_follow [] r follows = follows
steps_follow (s ∷ steps) r follows = steps_follow steps (after_step char_columns s r) (step_follows s r follows)

pub shows_each_frame : ShowsEachFrame
shows_each_frame r steps c none size =
    let agrees : Agree r.board.screen r.display = subst (λ (screen : Option Buffers). Agree screen r.display) (sym none) tt in
    drawing_shows (after_steps char_columns steps r) c (steps_follow steps r (record { size = size; agrees = agrees }))

-- ---- the main screen is shown again

-- a display on its alternate screen, which the dashboard has entered, keeps this of the main one
record Keeps (m : Kept) (r : Run) : Type 0 where
  entered : is_some r.board.screen ≡ true
  main : r.display.main ≡ m

-- the first frame enters the alternate screen
frame_enters : (screen : Option Buffers) (width height : ℕ) (d : Display) (g : Sheet) → screen ≡ None → d.main ≡ None
    → (after_signs char_columns (signs screen width height g) d).main ≡ Some (d.grid, d.cursor)
frame_enters (Some b) width height d g none main = cc
frame_enters None width height d g none main =
    let b = with_next g (blank_buffers width height) in
    let start = after_signs char_columns enter d in
    ap (λ (e : Display). e.main) (after_append char_columns enter (frame b) d)
    ∙ signs_keep char_columns (frame b) start (frame_stays b)
    ∙ ap (λ (m : Kept). Some (unwrap_or m (d.grid, d.cursor))) main

-- a further one stays on it
frame_keeps : (screen : Option Buffers) (width height : ℕ) (d : Display) (g : Sheet) → is_some screen ≡ true
    → (after_signs char_columns (signs screen width height g) d).main ≡ d.main
frame_keeps None width height d g entered = cc
frame_keeps (Some b) width height d g entered = signs_keep char_columns (frame (with_next g b)) d (frame_stays (with_next g b))

-- a screen that takes another size has still been entered
resized_entered : (screen : Option Buffers) (width height : ℕ) → is_some screen ≡ true → is_some (option_map (λ b. blank_buffers width height) screen) ≡ true
resized_entered None width height entered = entered
resized_entered (Some b) width height entered = refl

step_keeps : (m : Kept) (s : Step) (r : Run) → Keeps m r → Keeps m (after_step char_columns s r)
step_keeps m (Handles e) r keeps = record {
  entered = subst (λ (screen : Option Buffers). is_some screen ≡ true) (handled_stays r.board e).screen keeps.entered;
  main = keeps.main;
}
step_keeps m (Resizes g cursor) r keeps = record { entered = resized_entered r.board.screen g.width g.height keeps.entered; main = keeps.main }
step_keeps m (Draws c) r keeps = record {
  entered = refl;
  main = frame_keeps r.board.screen r.board.width r.board.height r.display (next_grid r.board c) keeps.entered ∙ keeps.main;
}

steps_keep : (m : Kept) (steps : List Step) (r : Run) → Keeps m r → Keeps m (after_steps char_columns steps r)
steps_keep m [] r keeps = keeps
steps_keep m (s ∷ steps) r keeps = steps_keep m steps (after_step char_columns s r) (step_keeps m s r keeps)

-- what is left then
closes : (screen : Option Buffers) (d e : Display) → is_some screen ≡ true → d.main ≡ None → e.main ≡ Some (d.grid, d.cursor)
    → after_signs char_columns (closing screen) e ≡ record d { shows_cursor = true; wraps = true }
closes None d e entered none kept = cc
closes (Some b) d e entered none kept = left_again char_columns d e none kept

pub shows_main_again : ShowsMainAgain
shows_main_again r c steps none main =
    let first = after_drawing char_columns c r in
    let keeps = steps_keep (Some (r.display.grid, r.display.cursor)) steps first
    (record { entered = refl; main = frame_enters r.board.screen r.board.width r.board.height r.display (next_grid r.board c) none main }) in
    closes (after_steps char_columns steps first).board.screen r.display (after_steps char_columns steps first).display keeps.entered main keeps.main
