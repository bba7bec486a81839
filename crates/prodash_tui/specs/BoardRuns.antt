-- A run of a dashboard: events, new sizes and frames, and what the display of its terminal shows.
use Rattle.std.specs.Prelude.{◌≡◌, ℕ, true, List, [], ◌∷◌, None}
use Rattle.prodash_core.specs.declared.render.tui.event.Event.{Event}
use Rattle.prodash_line.specs.CellRows.{char_columns}
use Rattle.prodash_tui.specs.declared.cursor.Cursor.{Cursor}
use Rattle.prodash_tui.specs.declared.dashboard.contents.Contents.{Contents}
use Rattle.prodash_tui.specs.Displays.{Display, after_signs}
use Rattle.prodash_tui.specs.Grids.{Sheet}
use Rattle.prodash_tui.specs.Boards.{Board, after_frame, closing, frame_signs, handled, next_grid, resized}

-- a dashboard, and the display of its terminal
pub record Run : Type 0 where
  pub board : Board
  pub display : Display

-- a step of it: an event, another size of the display, which then shows anything and has its cursor anywhere, but keeps what is under the alternate
-- screen, or a frame
pub data Step : Type 0 where
  Handles : Event → Step
  Resizes : Sheet → Cursor → Step
  Draws : Contents → Step

-- it after a frame, on a display that gives characters so many columns
abbrev pub after_drawing : (ℕ → ℕ) → Contents → Run → Run
after_drawing columns c r = record { board = after_frame r.board c; display = after_signs columns (frame_signs r.board c) r.display }

-- it after a step that isn't refused; the dashboard is told the size
abbrev pub after_step : (ℕ → ℕ) → Step → Run → Run
after_step columns (Handles e) r = record r { board = (handled r.board e).0 }
after_step columns (Resizes g cursor) r = record r { board = resized g.width g.height r.board; display = record r.display { grid = g; cursor = cursor } }
after_step columns (Draws c) r = after_drawing columns c r

-- it after these steps
abbrev pub after_steps : (ℕ → ℕ) → List Step → Run → Run
after_steps columns [] r = r
after_steps columns (s ∷ steps) r = after_steps columns steps (after_step columns s r)

-- what the display shows after the end
abbrev pub after_closing : (ℕ → ℕ) → Run → Display
after_closing columns r = after_signs columns (closing r.board.screen) r.display

-- the display has the size that the dashboard was told
pub record HasToldSize (r : Run) : Type 0 where
  pub width : r.display.grid.width ≡ r.board.width
  pub height : r.display.grid.height ≡ r.board.height

-- after any steps of a dashboard that has drawn no frame, and one frame more, the display shows exactly the grid of that frame, whatever it showed before,
-- if it gives characters the columns that `unicode_width` counts
abbrev pub ShowsEachFrame : Type 0
ShowsEachFrame = (r : Run) (steps : List Step) (c : Contents) → r.board.screen ≡ None → HasToldSize r
    → (after_drawing char_columns c (after_steps char_columns steps r)).display.grid ≡ next_grid (after_steps char_columns steps r).board c

-- after the first frame, any further steps, and the end, it shows again what it showed before; the cursor is shown, and characters wrap
abbrev pub ShowsMainAgain : Type 0
ShowsMainAgain = (r : Run) (c : Contents) (steps : List Step) → r.board.screen ≡ None → r.display.main ≡ None
    → after_closing char_columns (after_steps char_columns steps (after_drawing char_columns c r)) ≡ record r.display { shows_cursor = true; wraps = true }
