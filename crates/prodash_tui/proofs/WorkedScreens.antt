-- The signs of the frames of a screen, and what a display shows after them, computed.
use Rattle.std.proofs.Common.{◌≡◌, ℕ, List, [], ◌∷◌, ◌++◌, map, refl}
use Rattle.std.specs.Prelude.{None, Some, true, false, codes}
use Rattle.prodash_tui.specs.declared.sign.Sign.{Sign}
use Rattle.prodash_tui.specs.declared.sign.Sign.TheVariants.{Char, EraseScreen, MoveTo, SetStyle}
use Rattle.prodash_tui.specs.Cells.{cell_of, plain}
use Rattle.prodash_tui.specs.Grids.{Sheet, blank_sheet}
use Rattle.prodash_tui.specs.Displays.{Display, after_signs}
use Rattle.prodash_tui.specs.Screens.{Buffers, blank_buffers, drawn, enter, frame, frames, leave, unknown}

-- a grid of one row, each character of a text in a cell
abbrev grid : List ℕ → Sheet
grid text = record { width = 3; height = 1; rows = map (cell_of plain) text ∷ [] }

-- the grids of a screen of this size, with this one drawn next
abbrev first : Sheet → Buffers
first g = record (blank_buffers 3 1) { back = g }

-- a display on its main screen with this text, where the cursor is hidden
abbrev display : List ℕ → Display
display text = record { grid = grid text; cursor = record { row = 0; column = 2; style = plain }; main = None; shows_cursor = false; wraps = true }

abbrev after : List Sign → Display → Display
after signs d = after_signs (λ c. 1) signs d

-- ---- frames

-- the first frame is written whole
pub first_whole : frame (first (grid (codes " ab"))) ≡ SetStyle plain ∷ EraseScreen ∷ MoveTo 0 1 ∷ SetStyle plain ∷ Char 97 ∷ Char 98 ∷ []
first_whole = refl

-- and the next one by what has changed, from grids of which the one that is drawn next began blank
pub swapped : drawn (first (grid (codes " ab"))) ≡ record { front = grid (codes " ab"); back = blank_sheet 3 1; is_shown = true }
swapped = refl

pub next_changed : frames (first (grid (codes " ab"))) (grid (codes " ab") ∷ grid (codes " xb") ∷ [])
    ≡ frame (first (grid (codes " ab"))) ++ MoveTo 0 1 ∷ SetStyle plain ∷ Char 120 ∷ []
next_changed = refl

-- nothing is written for a grid that was drawn before
pub again : frame (record (drawn (first (grid (codes " ab")))) { back = grid (codes " ab") }) ≡ []
again = refl

-- a frame is written whole if the terminal may show anything, and if it is no more of the size of the one before
pub whole_again : frame (unknown (record (drawn (first (grid (codes " ab")))) { back = grid (codes " ab") })) ≡ frame (first (grid (codes " ab")))
whole_again = refl

pub other_size : frame (record (drawn (first (grid (codes " ab")))) { back = record { width = 1; height = 1; rows = (cell_of plain 99 ∷ []) ∷ [] } })
    ≡ SetStyle plain ∷ EraseScreen ∷ MoveTo 0 0 ∷ SetStyle plain ∷ Char 99 ∷ []
other_size = refl

-- ---- what a display shows

-- two frames over a display with other text, which keeps that under the alternate screen
pub shown : after (enter ++ frames (first (grid (codes " ab"))) (grid (codes " ab") ∷ grid (codes "cb ") ∷ [])) (display (codes "xyz"))
    ≡ record {
      grid = grid (codes "cb ");
      cursor = record { row = 0; column = 3; style = plain };
      main = Some (grid (codes "xyz"), record { row = 0; column = 2; style = plain });
      shows_cursor = false;
      wraps = false;
    }
shown = refl

-- and shows it again, with its cursor
pub restored : after (enter ++ (frames (first (grid (codes " ab"))) (grid (codes " ab") ∷ grid (codes "cb ") ∷ []) ++ leave)) (display (codes "xyz"))
    ≡ record (display (codes "xyz")) { shows_cursor = true }
restored = refl
