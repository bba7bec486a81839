-- The definitions of a row of cells and of the page of a terminal, computed.
use Rattle.std.proofs.Common.{◌≡◌, ℕ, true, false, cond, List, [], ◌∷◌, ◌++◌, map, refl, eqb, arith}
use Rattle.std.specs.Prelude.{replicate, codes}
use Rattle.unicode_width.specs.Width.{str_width, step, past_emoji}
use Rattle.prodash_line.specs.declared.render.line.draw.layout.Layout.TheVariants.{Overwriting, Erasing}
use Rattle.prodash_line.specs.declared.render.line.draw.layout.Layout.{Layout}
use Rattle.prodash_line.specs.Lines.{piece}
use Rattle.prodash_line.specs.Frames.{Draws, Frame, frame_signs}
use Rattle.prodash_line.specs.CellRows.{blank_cell, blank_cells, played, wrapped, shown}
use Rattle.prodash_line.specs.declared.render.line.page.cell.Cell.{Cell}
use Rattle.prodash_line.specs.declared.render.line.page.cell.Cell.TheVariants.{Holds, Half}
use Rattle.prodash_line.specs.Terminals.{Terminal, terminal_after}
use Rattle.prodash_line.specs.ErasedPages.{HasSize}

-- U+0301 joins the character before it, U+65E5 is wide, and others have one column, U+00AD too
abbrev some_columns : ℕ → ℕ
some_columns c = cond (eqb c 0x301) 0 (cond (eqb c 0x65E5) 2 1)

-- the same, but for U+00AD, which has none
abbrev other_columns : ℕ → ℕ
other_columns c = cond (eqb c 0xAD) 0 (some_columns c)

abbrev one : ℕ → Cell
one c = Holds c []

-- ---- rows of ten cells

-- a wide character in the last two
pub wide_at_end : played some_columns 10 (codes "abcdefgh" ++ 0x65E5 ∷ [])
    ≡ one 97 ∷ one 98 ∷ one 99 ∷ one 100 ∷ one 101 ∷ one 102 ∷ one 103 ∷ one 104 ∷ one 0x65E5 ∷ Half ∷ []
wide_at_end = refl

-- one with a single cell left, which it blanks
pub wide_without_room : played some_columns 10 (codes "abcdefghi" ++ 0x65E5 ∷ [])
    ≡ one 97 ∷ one 98 ∷ one 99 ∷ one 100 ∷ one 101 ∷ one 102 ∷ one 103 ∷ one 104 ∷ one 105 ∷ blank_cell ∷ []
wide_without_room = refl

-- a character behind it replaces its second half, and blanks the first
pub torn_at_end : played some_columns 10 (codes "abcdefgh" ++ 0x65E5 ∷ 105 ∷ [])
    ≡ one 97 ∷ one 98 ∷ one 99 ∷ one 100 ∷ one 101 ∷ one 102 ∷ one 103 ∷ one 104 ∷ blank_cell ∷ one 105 ∷ []
torn_at_end = refl

-- U+00AD in a cell of its own, or joined
pub in_own_cell : played some_columns 10 (97 ∷ 0xAD ∷ 98 ∷ []) ≡ one 97 ∷ one 0xAD ∷ one 98 ∷ blank_cells 7
in_own_cell = refl

pub in_no_cell : played other_columns 10 (97 ∷ 0xAD ∷ 98 ∷ []) ≡ Holds 97 (0xAD ∷ []) ∷ one 98 ∷ blank_cells 8
in_no_cell = refl

-- `e` and U+0301 in one cell
pub joined : played some_columns 10 (101 ∷ 0x301 ∷ 97 ∷ []) ≡ Holds 101 (0x301 ∷ []) ∷ one 97 ∷ blank_cells 8
joined = refl

pub joined_shown : shown some_columns (101 ∷ 0x301 ∷ 0x65E5 ∷ []) ≡ Holds 101 (0x301 ∷ []) ∷ one 0x65E5 ∷ Half ∷ []
joined_shown = refl

-- two characters past the last cell
pub past_end : played some_columns 10 (codes "abcdefghijkl")
    ≡ one 97 ∷ one 98 ∷ one 99 ∷ one 100 ∷ one 101 ∷ one 102 ∷ one 103 ∷ one 104 ∷ one 105 ∷ one 108 ∷ []
past_end = refl

-- ---- rows of a text whose characters wrap

-- 25 characters in rows of ten cells
pub three_rows : wrapped some_columns 10 (codes "abcdefghijklmnopqrstuvwxy")
    ≡ map one (codes "abcdefghij") ∷ map one (codes "klmnopqrst") ∷ (map one (codes "uvwxy") ++ blank_cells 5) ∷ []
three_rows = refl

-- a text that ends in the last cell has no other row, and one without characters has a row
pub full_row : wrapped some_columns 3 (codes "abc") ≡ map one (codes "abc") ∷ []
full_row = refl

pub empty_row : wrapped some_columns 3 [] ≡ blank_cells 3 ∷ []
empty_row = refl

-- a wide character that has no room goes to the next row
pub wide_wraps : wrapped some_columns 3 (97 ∷ 98 ∷ 0x65E5 ∷ []) ≡ (one 97 ∷ one 98 ∷ blank_cell ∷ []) ∷ (one 0x65E5 ∷ Half ∷ blank_cell ∷ []) ∷ []
wide_wraps = refl

-- ---- frames

-- a page full of `x`, with the cursor inside its second row
abbrev filled : Terminal
filled = record { width = 3; height = 3; rows = replicate 3 (replicate 3 (one 120)); row = 1; column = 2; wraps = true }

pub filled_size : HasSize (3, 3) filled
filled_size = record { width = refl; height = refl; low = omega arith; row = omega arith; window = omega arith }

-- a frame of one line where two were on screen
abbrev line_in : Layout → List ℕ → Frame
line_in layout text = record { layout = layout; opening = []; messages = []; body = Draws ((piece text ∷ []) ∷ []) }

-- it begins at column 0, and all is blank besides its line
pub line_erased : terminal_after some_columns (frame_signs (1 ∷ 1 ∷ []) (line_in (Erasing 3 false false) (97 ∷ []))) filled
    ≡ record { width = 3; height = 3; rows = replicate 3 (one 120) ∷ (one 97 ∷ blank_cells 2) ∷ blank_cells 3 ∷ blank_cells 3 ∷ []; row = 1; column = 0; wraps = true }
unfolding str_width step past_emoji
line_erased = refl

-- one that overwrites leaves what was there
pub not_erased : terminal_after some_columns (frame_signs (1 ∷ 1 ∷ []) (line_in Overwriting (97 ∷ []))) filled
    ≡ record {
      width = 3;
      height = 3;
      rows = replicate 3 (one 120) ∷ (one 120 ∷ one 120 ∷ one 97 ∷ []) ∷ (blank_cell ∷ one 120 ∷ one 120 ∷ []) ∷ blank_cells 3 ∷ [];
      row = 1;
      column = 0;
      wraps = true;
    }
unfolding str_width step past_emoji
not_erased = refl

-- of a line that the terminal takes for wider than its row no part is in another row
pub line_too_wide : terminal_after some_columns (frame_signs [] (line_in (Erasing 3 false false) (codes "abcd"))) filled
    ≡ record { width = 3; height = 3; rows = replicate 3 (one 120) ∷ (one 97 ∷ one 98 ∷ one 100 ∷ []) ∷ blank_cells 3 ∷ []; row = 1; column = 0; wraps = true }
unfolding str_width step past_emoji
line_too_wide = refl

-- a page of ten columns and six rows full of `x`, with the cursor in its second row
abbrev wide_page : Terminal
wide_page = record { width = 10; height = 6; rows = replicate 6 (replicate 10 (one 120)); row = 1; column = 4; wraps = false }

-- a whole message of 25 characters above two lines: it has three rows, and the page gets one row more
abbrev message_frame : Frame
message_frame = record {
  layout = Erasing 6 false true;
  opening = [];
  messages = (piece (codes "abcdefghijklmnopqrstuvwxy") ∷ []) ∷ [];
  body = Draws ((piece (97 ∷ []) ∷ []) ∷ (piece (98 ∷ []) ∷ []) ∷ []);
}

pub message_above_lines : terminal_after some_columns (frame_signs [] message_frame) wide_page
    ≡ record {
      width = 10;
      height = 6;
      rows = replicate 10 (one 120)
          ∷ map one (codes "abcdefghij")
          ∷ map one (codes "klmnopqrst")
          ∷ (map one (codes "uvwxy") ++ blank_cells 5)
          ∷ (one 97 ∷ blank_cells 9)
          ∷ (one 98 ∷ blank_cells 9)
          ∷ blank_cells 10
          ∷ [];
      row = 4;
      column = 0;
      wraps = true;
    }
unfolding str_width step past_emoji
message_above_lines = refl
