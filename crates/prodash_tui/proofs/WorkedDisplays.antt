-- What signs leave of a display, and the signs of frames, computed.
use Rattle.std.proofs.Common.{◌≡◌, ℕ, cond, List, [], ◌∷◌, ◌++◌, map, refl, eqb}
use Rattle.std.specs.Prelude.{None, Some, true, false, codes}
use Rattle.prodash_tui.specs.declared.cell.Cell.{Cell}
use Rattle.prodash_tui.specs.declared.cell.Cell.TheVariants.{Holds, Half}
use Rattle.prodash_tui.specs.declared.sign.Sign.{Sign}
use Rattle.prodash_tui.specs.declared.sign.Sign.TheVariants.{Char, EnterAlternate, EraseScreen, HideCursor, LeaveAlternate, MoveTo, NoWrap, SetStyle, ShowCursor, Wrap}
use Rattle.prodash_tui.specs.declared.style.Color.TheVariants.{Red}
use Rattle.prodash_tui.specs.declared.style.Style.{Style}
use Rattle.prodash_tui.specs.Cells.{blank_cell, cell_of, plain}
use Rattle.prodash_tui.specs.Grids.{Sheet}
use Rattle.prodash_tui.specs.Displays.{Display, after_signs}
use Rattle.prodash_tui.specs.Frames.{difference, first_frame}

-- U+0301 joins the character before it, U+65E5 is wide, and others have one column
abbrev some_columns : ℕ → ℕ
some_columns c = cond (eqb c 0x301) 0 (cond (eqb c 0x65E5) 2 1)

abbrev bold : Style
bold = record plain { bold = true }

abbrev on_red : Style
on_red = record plain { background = Some Red }

-- a row of the characters of a text, each in a cell, in the plain style
abbrev row : List ℕ → List Cell
row text = map (cell_of plain) text

-- a grid of rows of four columns
abbrev grid : ℕ → List (List Cell) → Sheet
grid height rows = record { width = 4; height = height; rows = rows }

-- a display of one row, with its cursor in this column, where characters don't wrap
abbrev display : ℕ → List Cell → Display
display column cells = record {
  grid = grid 1 (cells ∷ []);
  cursor = record { row = 0; column = column; style = plain };
  main = None;
  shows_cursor = true;
  wraps = false;
}

-- one of two rows, with its cursor in the last column of this row, where they wrap
abbrev wrapping : ℕ → List (List Cell) → Display
wrapping y rows = record (display 4 []) { grid = grid 2 rows; cursor = record { row = y; column = 3; style = plain }; wraps = true }

abbrev after : List Sign → Display → Display
after signs d = after_signs some_columns signs d

-- ---- signs

-- a character, and one of no column that joins it
pub one : after (Char 97 ∷ Char 0x301 ∷ []) (display 1 (row (codes "wxyz"))) ≡ display 2 (cell_of plain 119 ∷ Holds 97 (0x301 ∷ []) plain ∷ row (codes "yz"))
one = refl

-- a wide character over a first half and a second half, whose other halves are blank then, and what joins it
pub two : after (Char 0x65E5 ∷ Char 0x301 ∷ []) (display 1 (cell_of plain 0x65E5 ∷ Half ∷ cell_of plain 0x65E5 ∷ Half ∷ []))
    ≡ display 3 (blank_cell ∷ Holds 0x65E5 (0x301 ∷ []) plain ∷ Half ∷ blank_cell ∷ [])
two = refl

-- at the first column nothing is joined, and a wide character that only one column is left for goes into the last two
pub nothing_before : after (Char 0x301 ∷ []) (display 0 (row (codes "wxyz"))) ≡ display 0 (row (codes "wxyz"))
nothing_before = refl

pub at_edge : after (Char 0x65E5 ∷ []) (display 3 (row (codes "wxyz"))) ≡ display 4 (row (codes "wx") ++ cell_of plain 0x65E5 ∷ Half ∷ [])
at_edge = refl

-- the last column takes the next character, too
pub past_edge : after (Char 97 ∷ Char 98 ∷ []) (display 3 (row (codes "wxyz"))) ≡ display 4 (row (codes "wxyb"))
past_edge = refl

-- where characters wrap, the next one goes to the next row, and so does a wide one that only one column is left for
pub wrapped : after (Char 97 ∷ Char 98 ∷ []) (wrapping 0 (row (codes "wxyz") ∷ row (codes "qrst") ∷ []))
    ≡ record (wrapping 1 (row (codes "wxya") ∷ row (codes "brst") ∷ [])) { cursor = record { row = 1; column = 1; style = plain } }
wrapped = refl

-- below the last row the rows move up
pub wrapped_wide : after (Char 0x65E5 ∷ []) (wrapping 1 (row (codes "wxyz") ∷ row (codes "qrst") ∷ []))
    ≡ record (wrapping 1 (row (codes "qrst") ∷ (cell_of plain 0x65E5 ∷ Half ∷ row (codes "  ")) ∷ [])) { cursor = record { row = 1; column = 2; style = plain } }
wrapped_wide = refl

-- the modes of the cursor and of wrapping
pub modes : after (HideCursor ∷ Wrap ∷ []) (display 0 (row (codes "wxyz"))) ≡ record (display 0 (row (codes "wxyz"))) { shows_cursor = false; wraps = true }
modes = refl

pub modes_back : after (HideCursor ∷ Wrap ∷ ShowCursor ∷ NoWrap ∷ []) (display 0 (row (codes "wxyz"))) ≡ display 0 (row (codes "wxyz"))
modes_back = refl

-- the alternate screen begins blank, with the cursor where it was
pub entered : after (EnterAlternate ∷ Char 97 ∷ []) (display 1 (row (codes "wxyz")))
    ≡ record (display 2 (row (codes " a  "))) { main = Some (grid 1 (row (codes "wxyz") ∷ []), record { row = 0; column = 1; style = plain }) }
entered = refl

-- entered once more it is blank again, and the main screen is kept
pub entered_twice : after (EnterAlternate ∷ Char 97 ∷ EnterAlternate ∷ []) (display 1 (row (codes "wxyz")))
    ≡ record (display 2 (row (codes "    "))) { main = Some (grid 1 (row (codes "wxyz") ∷ []), record { row = 0; column = 1; style = plain }) }
entered_twice = refl

-- behind it the main screen is as it was, with its cursor and style
pub left : after (EnterAlternate ∷ SetStyle bold ∷ Char 97 ∷ LeaveAlternate ∷ []) (display 1 (row (codes "wxyz"))) ≡ display 1 (row (codes "wxyz"))
left = refl

-- on the main screen there is nothing to leave
pub not_left : after (LeaveAlternate ∷ []) (display 1 (row (codes "wxyz"))) ≡ display 1 (row (codes "wxyz"))
not_left = refl

-- a motion goes no further than the last row and column
pub moved : (after (MoveTo 7 2 ∷ MoveTo 0 9 ∷ []) (display 0 (row (codes "wxyz")))).cursor ≡ record { row = 0; column = 3; style = plain }
moved = refl

-- a style is that of the characters behind it, and its background that of what is erased
pub styled : (after (SetStyle bold ∷ Char 97 ∷ []) (display 0 (row (codes "wxyz")))).grid ≡ grid 1 ((cell_of bold 97 ∷ row (codes "xyz")) ∷ [])
styled = refl

pub erased : (after (SetStyle on_red ∷ EraseScreen ∷ []) (display 0 (row (codes "wxyz")))).grid
    ≡ grid 1 ((cell_of on_red 32 ∷ cell_of on_red 32 ∷ cell_of on_red 32 ∷ cell_of on_red 32 ∷ []) ∷ [])
erased = refl

-- ---- frames

abbrev before : Sheet
before = grid 2 (row (codes "abcd") ∷ row (codes "efgh") ∷ [])

-- nothing is written if nothing differs
pub same : difference before before ≡ []
same = refl

-- two neighbours and a third: one motion for the neighbours, one style for all
pub neighbours : difference before (grid 2 (row (codes "aXYd") ∷ row (codes "efgZ") ∷ []))
    ≡ MoveTo 0 1 ∷ SetStyle plain ∷ Char 88 ∷ Char 89 ∷ MoveTo 1 3 ∷ Char 90 ∷ []
neighbours = refl

-- a style for one character, and the plain one for the next
pub changed_style : difference before (grid 2 ((cell_of bold 97 ∷ row (codes "Xcd")) ∷ row (codes "efgh") ∷ []))
    ≡ MoveTo 0 0 ∷ SetStyle bold ∷ Char 97 ∷ SetStyle plain ∷ Char 88 ∷ []
changed_style = refl

-- a wide character, whose second half isn't written, and what joins it: its cells are blanked first, and a motion is behind it
pub wide_change : difference before (grid 2 ((Holds 0x65E5 (0x301 ∷ []) plain ∷ Half ∷ row (codes "Xd")) ∷ row (codes "efgh") ∷ []))
    ≡ MoveTo 0 0 ∷ SetStyle plain ∷ Char 32 ∷ Char 32 ∷ MoveTo 0 0 ∷ Char 0x65E5 ∷ Char 0x301 ∷ MoveTo 0 2 ∷ SetStyle plain ∷ Char 88 ∷ []
wide_change = refl

-- on a terminal that shows that character in one column nothing is left in the other
pub narrow_wide : (after_signs (λ c. 1) (difference before (grid 2 ((cell_of plain 0x65E5 ∷ Half ∷ row (codes "Xd")) ∷ row (codes "efgh") ∷ [])))
    (record (display 0 []) { grid = before })).grid
    ≡ grid 2 ((cell_of plain 0x65E5 ∷ row (codes " Xd")) ∷ row (codes "efgh") ∷ [])
narrow_wide = refl

-- a narrow character over a wide one: the blank behind it is written
pub narrow_change : difference (grid 1 ((cell_of plain 0x65E5 ∷ Half ∷ row (codes "cd")) ∷ [])) (grid 1 (row (codes "a cd") ∷ []))
    ≡ MoveTo 0 0 ∷ SetStyle plain ∷ Char 97 ∷ Char 32 ∷ []
narrow_change = refl

-- the first frame of a grid with one character
pub first : first_frame (grid 2 (row (codes "    ") ∷ row (codes " x  ") ∷ [])) ≡ SetStyle plain ∷ EraseScreen ∷ MoveTo 1 1 ∷ SetStyle plain ∷ Char 120 ∷ []
first = refl

-- it erases what was shown
pub first_shown : (after (first_frame (grid 1 (row (codes " x  ") ∷ []))) (display 2 (row (codes "wxyz")))).grid ≡ grid 1 (row (codes " x  ") ∷ [])
first_shown = refl
