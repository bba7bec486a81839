-- The definitions of a page and of what it shows, computed.
use Rattle.std.proofs.Common.{◌≡◌, true, false, None, List, [], ◌∷◌, ap, refl, arith}
use Rattle.unicode_width.specs.Width.{str_width, step, past_emoji}
use Rattle.prodash_line.specs.declared.render.line.page.sign.Sign.TheVariants.{Char, LineFeed, Up, EraseLine, HideCursor, ShowCursor, NoWrap, Wrap, Open, Reset}
use Rattle.prodash_line.specs.declared.render.line.draw.layout.Layout.TheVariants.{Overwriting}
use Rattle.prodash_line.specs.Lines.{Line, piece}
use Rattle.prodash_line.specs.Frames.{Draws, Frame, signs_of, all_lines_after}
use Rattle.prodash_line.specs.Page.{blank_page, page_after}
use Rattle.prodash_line.specs.Shows.{Shows}

-- a page of one cell: `a`, `b`, a line feed, and up, which stops at the window's top
pub one_cell : page_after (Char 97 ∷ Char 98 ∷ LineFeed ∷ Up 5 ∷ []) (blank_page 1 1)
    ≡ record { columns = 1; height = 1; rows = (97 ∷ []) ∷ (98 ∷ []) ∷ (32 ∷ []) ∷ []; row = 2; column = 0; wraps = true }
one_cell = refl

-- a character in the last column leaves the cursor in its row, so that a line feed after it adds no blank row
pub last_column : page_after (Char 97 ∷ Char 98 ∷ LineFeed ∷ []) (blank_page 2 2)
    ≡ record { columns = 2; height = 2; rows = (97 ∷ 98 ∷ []) ∷ (32 ∷ 32 ∷ []) ∷ []; row = 1; column = 0; wraps = true }
last_column = refl

-- to erase a row leaves the cursor
pub erased : page_after (Char 97 ∷ EraseLine ∷ Char 98 ∷ []) (blank_page 2 1)
    ≡ record { columns = 2; height = 1; rows = (32 ∷ 98 ∷ []) ∷ []; row = 0; column = 2; wraps = true }
erased = refl

-- styles, and whether the cursor is hidden, change no cell, and a character after them is where it would be without them
pub styled : page_after (HideCursor ∷ Open (record { bold = true; dim = false; color = None; on_yellow = false }) ∷ Char 97 ∷ Reset ∷ Char 98 ∷ ShowCursor ∷ []) (blank_page 2 1) ≡ page_after (Char 97 ∷ Char 98 ∷ []) (blank_page 2 1)
styled = refl

-- a frame that draws these lines
abbrev drawing : List Line → Frame
drawing lines = record { layout = Overwriting; opening = []; messages = []; body = Draws lines }

-- two frames, each of one line
abbrev two : List Frame
two = drawing ((piece (97 ∷ []) ∷ []) ∷ []) ∷ drawing ((piece (98 ∷ []) ∷ []) ∷ []) ∷ []

-- on a page with two rows the second line is in the place of the first
pub fewer_rows : page_after (signs_of [] two) (blank_page 1 2)
    ≡ record { columns = 1; height = 2; rows = (98 ∷ []) ∷ (32 ∷ []) ∷ []; row = 0; column = 0; wraps = true }
unfolding str_width step past_emoji
fewer_rows = refl

-- with as many drawn lines as rows it isn't: the first line is above the window, where no frame gets back to it
pub as_many_rows : page_after (signs_of [] two) (blank_page 1 1)
    ≡ record { columns = 1; height = 1; rows = (97 ∷ []) ∷ (98 ∷ []) ∷ (32 ∷ []) ∷ []; row = 2; column = 0; wraps = true }
unfolding str_width step past_emoji
as_many_rows = refl

-- so what a page shows would be false if frames were allowed to draw as many lines as the window has rows
pub shows_fewer_rows : Shows [] (all_lines_after [] two) (page_after (signs_of [] two) (blank_page 1 1)) → ⊥
shows_fewer_rows h = omega (arith, h.row, ap (λ p. p.row) as_many_rows)

-- without wrapping characters past the last column replace the one in it, and the cursor stays behind it; then the next one goes on below
pub not_wrapped : page_after (NoWrap ∷ Char 97 ∷ Char 98 ∷ Char 99 ∷ Char 100 ∷ []) (blank_page 2 1)
    ≡ record { columns = 2; height = 1; rows = (97 ∷ 100 ∷ []) ∷ []; row = 0; column = 2; wraps = false }
not_wrapped = refl

pub wrapped_again : page_after (NoWrap ∷ Char 97 ∷ Char 98 ∷ Char 99 ∷ Wrap ∷ Char 100 ∷ []) (blank_page 2 1)
    ≡ record { columns = 2; height = 1; rows = (97 ∷ 99 ∷ []) ∷ (100 ∷ 32 ∷ []) ∷ []; row = 1; column = 1; wraps = true }
wrapped_again = refl
