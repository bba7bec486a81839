-- What a screen appends for a terminal, and what a display shows after it.
use Rattle.std.specs.Prelude.{◌≡◌, ℕ, Bool, true, false, ◌&&◌, nat_eq, List, [], ◌∷◌, ◌++◌, None, ⊤, if◌then◌else◌}
use Rattle.std.specs.List.{All}
use Rattle.prodash_tui.specs.declared.sign.Sign.{Sign}
use Rattle.prodash_tui.specs.declared.sign.Sign.TheVariants.{SetStyle, EraseScreen, EnterAlternate, LeaveAlternate, HideCursor, ShowCursor, NoWrap, Wrap}
use Rattle.prodash_tui.specs.Cells.{plain}
use Rattle.prodash_tui.specs.Differences.{IsProperSheet}
use Rattle.prodash_tui.specs.Grids.{Sheet, blank_sheet}
use Rattle.prodash_tui.specs.Displays.{Display, after_signs}
use Rattle.prodash_tui.specs.Frames.{HaveOneSize, difference, first_frame}

-- the signs before the first frame
abbrev pub enter : List Sign
enter = EnterAlternate ∷ HideCursor ∷ NoWrap ∷ []

-- the signs after the last frame: nothing of it is left on the alternate screen, since a terminal that has grown may show that below the main one
abbrev pub leave : List Sign
leave = SetStyle plain ∷ EraseScreen ∷ LeaveAlternate ∷ Wrap ∷ ShowCursor ∷ []

-- the grid that was drawn last, the one that is drawn next, and whether the terminal is known to show the first
pub record Buffers : Type 0 where
  pub front : Sheet
  pub back : Sheet
  pub is_shown : Bool

-- two blank grids, of which the terminal shows none
abbrev pub blank_buffers : ℕ → ℕ → Buffers
blank_buffers width height = record { front = blank_sheet width height; back = blank_sheet width height; is_shown = false }

-- the grids on a terminal that may show anything
abbrev pub unknown : Buffers → Buffers
unknown b = record b { is_shown = false }

-- the grids of a screen, with this one drawn next
abbrev pub with_next : Sheet → Buffers → Buffers
with_next g b = record b { back = g }

-- the test of two grids of one size
abbrev pub have_one_size : Sheet → Sheet → Bool
have_one_size g h = nat_eq g.width h.width && nat_eq g.height h.height

-- can the next frame be written by difference? if the terminal shows a grid of its size
abbrev pub follows : Buffers → Bool
follows b = b.is_shown && have_one_size b.front b.back

-- the signs of the next frame
abbrev pub frame : Buffers → List Sign
frame b = if follows b then difference b.front b.back else first_frame b.back

-- the grids behind it: swapped, and the one that is drawn next is blank
abbrev pub drawn : Buffers → Buffers
drawn b = record { front = b.back; back = blank_sheet b.front.width b.front.height; is_shown = true }

-- the signs of frames, one for each of these grids
abbrev pub frames : Buffers → List Sheet → List Sign
frames b [] = []
frames b (g ∷ grids) = frame (record b { back = g }) ++ frames (drawn (record b { back = g })) grids

-- a sign that changes neither to the alternate screen nor back
abbrev pub StaysOnScreen : Sign → Type 0
StaysOnScreen EnterAlternate = ⊥
StaysOnScreen LeaveAlternate = ⊥
StaysOnScreen _ = ⊤

-- a display that shows the grid that was drawn last, a proper one, if it is known to show that
abbrev pub Agrees : (ℕ → ℕ) → Buffers → Display → Type 0
Agrees columns b d = b.is_shown ≡ true → IsProperSheet columns b.front × (d.grid ≡ b.front)

-- a proper grid of a display's size
pub record Fits (columns : ℕ → ℕ) (d : Display) (g : Sheet) : Type 0 where
  pub proper : IsProperSheet columns g
  pub size : HaveOneSize d.grid g

-- after frames of proper grids of its size, a display shows the last of them, if what it showed before is known or the first one is written whole
abbrev pub DrawsFrames : (ℕ → ℕ) → Type 0
DrawsFrames columns = (b : Buffers) (d : Display) (grids : List Sheet) (last : Sheet) → Agrees columns b d → All (Fits columns d) grids → Fits columns d last
    → (after_signs columns (frames b (grids ++ last ∷ [])) d).grid ≡ last

-- so it does after it has entered the alternate screen, whatever it showed
abbrev pub DrawsEntered : (ℕ → ℕ) → Type 0
DrawsEntered columns = (b : Buffers) (d : Display) (grids : List Sheet) (last : Sheet) → All (Fits columns d) grids → Fits columns d last
    → (after_signs columns (enter ++ frames (unknown b) (grids ++ last ∷ [])) d).grid ≡ last

-- a display on its main screen is as before once it has left the alternate one, whatever was drawn there; the cursor is shown, and characters wrap
abbrev pub Restores : (ℕ → ℕ) → Type 0
Restores columns = (d : Display) (signs : List Sign) → All StaysOnScreen signs → d.main ≡ None
    → after_signs columns (enter ++ (signs ++ leave)) d ≡ record d { shows_cursor = true; wraps = true }

-- in particular after any frames
abbrev pub RestoresFrames : (ℕ → ℕ) → Type 0
RestoresFrames columns = (b : Buffers) (d : Display) (grids : List Sheet) → d.main ≡ None
    → after_signs columns (enter ++ (frames b grids ++ leave)) d ≡ record d { shows_cursor = true; wraps = true }
