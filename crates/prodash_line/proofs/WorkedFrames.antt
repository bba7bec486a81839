-- The definitions of frames and of what fits, computed.
use Rattle.std.proofs.Common.{◌≡◌, ℕ, Bool, length, List, [], ◌∷◌, ◌++◌, map, Option, Some, None, true, false, refl, arith}
use Rattle.std.specs.Prelude.{codes}
use Rattle.std.specs.Str.{chars}
use Rattle.std.specs.Fmt.{digits}
use Rattle.unicode_width.specs.Width.{str_width, char_width, step, past_emoji}
use Rattle.prodash_base.specs.Rows.{PathRow, Phase, Running, Halted, Blocked, unknown_id}
use Rattle.prodash_base.specs.Numerals.{last_digits}
use Rattle.prodash_base.specs.Messages.{message_of}
use Rattle.prodash_base.specs.declared.messages.Message.{Message}
use Rattle.prodash_base.specs.declared.messages.MessageLevel.TheVariants.{Info, Failure}
use Rattle.prodash_line.specs.declared.render.line.page.sign.Sign.{Sign}
use Rattle.prodash_line.specs.declared.render.line.page.sign.Sign.TheVariants.{Char, LineFeed, CarriageReturn, Up, EraseLine, EraseBelow, NoWrap, Wrap, BeginUpdate, EndUpdate, HideCursor, ShowCursor, Open, Reset}
use Rattle.prodash_line.specs.declared.render.line.draw.input.Options.{Options}
use Rattle.prodash_line.specs.declared.render.line.draw.input.Input.{Input}
use Rattle.prodash_line.specs.declared.render.line.draw.input.Input.TheVariants.{Tick, Resize, Quit}
use Rattle.prodash_base.specs.declared.refusal.Refusal.TheVariants.{Closed}
use Rattle.prodash_line.specs.Frames.{frame_signs}
use Rattle.prodash_line.specs.Renderer.{Renderer, default_options, new_renderer, frame_at, next_renderer}
use Rattle.prodash_line.specs.Fits.{FrameFits}
use Rattle.prodash_line.specs.Lines.{line_text, longest_prefix}
use Rattle.prodash_line.specs.TextStyles.{of_color, dimmed, row_style}
use Rattle.prodash_line.specs.declared.render.line.page.style.Color.TheVariants.{Red, Green, Yellow, Cyan, White}
use Rattle.prodash_line.specs.declared.render.line.page.style.Color.{Color}
use Rattle.prodash_line.specs.declared.render.line.page.style.Style.{Style}
use Rattle.prodash_line.specs.ProgressRows.{bar, bar_columns, fitting_count, more_line, more_lines}
use Rattle.prodash_line.specs.declared.render.line.draw.layout.Layout.TheVariants.{Erasing}

-- a task below the root, without progress
abbrev row : List ℕ → PathRow
row name = (0 ∷ [], record { name = name; id = unknown_id; progress = None })

-- a tick that sees these rows and messages
abbrev tick : ℕ → Bool → List PathRow → List Message → Input
tick at show rows messages = Tick at show (Some (rows, messages, length messages))

abbrev signs_at : Renderer → Input → List Sign
signs_at r input = frame_signs r.widths (frame_at r input)

abbrev options : Options
options = record default_options { terminal_dimensions = (40, 4); colored = false }

abbrev terminal : Renderer
terminal = new_renderer options false

-- its name after a space, a line feed, and up by one row
pub drawn : signs_at terminal (tick 0 true (row (codes "task") ∷ []) []) ≡ map Char (codes " task") ++ LineFeed ∷ Up 1 ∷ []
unfolding chars str_width step past_emoji
drawn = refl

-- a shorter name, and spaces as far as the old one reached
pub drawn_over : signs_at (next_renderer terminal (tick 0 true (row (codes "task") ∷ []) [])) (tick 1 true (row (codes "a") ∷ []) []) ≡ map Char (codes " a   ") ++ LineFeed ∷ Up 1 ∷ []
unfolding chars str_width step past_emoji
drawn_over = refl

-- a message over the row, and another row below it
pub message_over : signs_at (next_renderer terminal (tick 0 true (row (codes "task") ∷ []) [])) (tick 1 true (row (codes "a") ∷ []) (message_of 0 Info (codes "b") (codes "x") ∷ []))
    ≡ map Char (codes " b x ") ++ LineFeed ∷ map Char (codes " a") ++ LineFeed ∷ Up 1 ∷ []
unfolding chars str_width step past_emoji
message_over = refl

-- spaces over the row, up to it, and that row erased
pub closing_over : signs_at (next_renderer terminal (tick 0 true (row (codes "task") ∷ []) [])) (Quit 1) ≡ map Char (codes "     ") ++ LineFeed ∷ Up 1 ∷ EraseLine ∷ CarriageReturn ∷ []
unfolding chars str_width step past_emoji
closing_over = refl

-- hidden, and shown again without a change
pub hidden : signs_at terminal (tick 0 false (row (codes "task") ∷ []) []) ≡ []
hidden = refl

pub unchanged : signs_at (next_renderer terminal (tick 0 false (row (codes "task") ∷ []) [])) (tick 1 true (row (codes "task") ∷ []) []) ≡ []
unchanged = refl

-- A tick that sees no rows, if the renderer isn't to keep running: it closes after its message; with the cursor hidden; without a terminal.
abbrev idle : Options
idle = record options { keep_running_if_progress_is_empty = false }

abbrev last_message : Input
last_message = tick 0 true [] (message_of 0 Info (codes "t") (codes "one") ∷ [])

pub closing_tick : signs_at (new_renderer idle false) last_message ≡ map Char (codes " t one") ++ LineFeed ∷ EraseLine ∷ CarriageReturn ∷ []
unfolding chars str_width step past_emoji
closing_tick = refl

pub closing_tick_shows_cursor : signs_at (new_renderer (record idle { hide_cursor = true }) false) last_message
    ≡ HideCursor ∷ map Char (codes " t one") ++ LineFeed ∷ ShowCursor ∷ EraseLine ∷ CarriageReturn ∷ []
unfolding chars str_width step past_emoji
closing_tick_shows_cursor = refl

pub closing_tick_plain : signs_at (new_renderer (record idle { output_is_terminal = false; hide_cursor = true }) false) last_message ≡ map Char (codes " t one") ++ LineFeed ∷ []
unfolding chars str_width step past_emoji
closing_tick_plain = refl

pub closes_after_tick : (next_renderer (new_renderer idle false) last_message).ended ≡ Some Closed
unfolding chars str_width step past_emoji
closes_after_tick = refl

-- the cursor is hidden by the first frame, and shown by a closing one
abbrev hiding : Renderer
hiding = new_renderer (record options { hide_cursor = true }) false

pub hidden_once : signs_at hiding (tick 0 false [] []) ≡ HideCursor ∷ []
hidden_once = refl

pub hidden_before : signs_at (next_renderer hiding (tick 0 false [] [])) (tick 1 true [] []) ≡ []
hidden_before = refl

pub shown_again : signs_at (next_renderer hiding (tick 0 false [] [])) (Quit 1) ≡ ShowCursor ∷ EraseLine ∷ CarriageReturn ∷ []
shown_again = refl

pub hidden_and_shown : signs_at hiding (Quit 0) ≡ HideCursor ∷ ShowCursor ∷ EraseLine ∷ CarriageReturn ∷ []
hidden_and_shown = refl

-- a row of the second level alone
abbrev below : List ℕ → PathRow
below name = (0 ∷ 0 ∷ [], record { name = name; id = unknown_id; progress = None })

pub second_level : signs_at (new_renderer (record options { level_filter = Some (2, 2) }) false) (tick 0 true (row (codes "a") ∷ below (codes "b") ∷ []) [])
    ≡ map Char (codes "  b") ++ LineFeed ∷ Up 1 ∷ []
unfolding chars str_width step past_emoji
second_level = refl

-- a resize draws the rows of the latest tick if it is shown, over those on screen; nothing before a tick, and nothing without a terminal
pub resized_row : signs_at (next_renderer terminal (tick 0 true (row (codes "task") ∷ []) [])) (Resize 1 true 30 4) ≡ map Char (codes " task") ++ LineFeed ∷ Up 1 ∷ []
unfolding chars str_width step past_emoji
resized_row = refl

pub resized_hidden : signs_at (next_renderer terminal (tick 0 true (row (codes "task") ∷ []) [])) (Resize 1 false 30 4) ≡ []
unfolding chars str_width step past_emoji
resized_hidden = refl

pub resized_first : signs_at terminal (Resize 1 true 30 4) ≡ []
resized_first = refl

pub resized_plain : signs_at (next_renderer (new_renderer (record options { output_is_terminal = false }) false) (tick 0 true (row (codes "task") ∷ []) [])) (Resize 1 true 30 4) ≡ []
unfolding chars str_width step past_emoji
resized_plain = refl

-- it keeps as many of the latest origin widths as the terminal has rows by then
pub resized_origins : (next_renderer (record terminal { origin_widths = 4 ∷ 1 ∷ 2 ∷ [] }) (Resize 1 true 30 2)).origin_widths ≡ 1 ∷ 2 ∷ []
resized_origins = refl

-- a higher terminal brings no width back
pub raised_origins : (next_renderer (next_renderer (record terminal { origin_widths = 4 ∷ 1 ∷ 2 ∷ [] }) (Resize 1 true 30 2)) (Resize 2 true 30 4)).origin_widths ≡ 1 ∷ 2 ∷ []
raised_origins = refl

-- what a page of that size takes
pub fits : FrameFits true 40 4 (frame_at terminal (tick 0 true (row (codes "a") ∷ []) []))
unfolding chars str_width char_width step past_emoji
fits = record {
  layout = refl;
  messages = tt;
  body = (
    (
      record {
        plain = record {
          pieces = (
            record { each = (record { scalar = refl; width = refl }, tt); width = refl },
            (record { each = (record { scalar = refl; width = refl }, tt); width = refl }, tt),
          );
          columns = refl;
        };
        within = tt;
      },
      tt,
    ),
    omega arith,
  );
}

-- ---- frames that erase rows

abbrev defensive : Renderer
defensive = new_renderer (record options { defensive = true }) false

abbrev task_row : Input
task_row = tick 0 true (row (codes "task") ∷ []) []

-- at the beginning of the row, which is erased; nothing is left below it, and nothing wraps in between
pub erases_row : signs_at defensive task_row ≡ CarriageReturn ∷ NoWrap ∷ EraseLine ∷ map Char (codes " task") ++ LineFeed ∷ EraseBelow ∷ Up 1 ∷ Wrap ∷ []
unfolding chars str_width step past_emoji
erases_row = refl

-- a message, and the rows again though they haven't changed; its row is left over
pub draws_again : signs_at (next_renderer defensive task_row) (tick 1 true (row (codes "task") ∷ []) (message_of 0 Info (codes "b") (codes "x") ∷ []))
    ≡ CarriageReturn ∷ NoWrap ∷ EraseLine ∷ map Char (codes " b x") ++ LineFeed ∷ EraseLine ∷ map Char (codes " task") ++ LineFeed ∷ EraseBelow ∷ Up 1 ∷ Wrap ∷ []
unfolding chars str_width step past_emoji
draws_again = refl

-- hidden, the message erases them, and they are drawn once they are shown
abbrev hidden_message : Input
hidden_message = tick 1 false (row (codes "task") ∷ []) (message_of 0 Info (codes "b") (codes "x") ∷ [])

pub erases_rows : signs_at (next_renderer defensive task_row) hidden_message ≡ CarriageReturn ∷ NoWrap ∷ EraseLine ∷ map Char (codes " b x") ++ LineFeed ∷ EraseBelow ∷ Wrap ∷ []
unfolding chars str_width step past_emoji
erases_rows = refl

pub draws_erased : signs_at (next_renderer (next_renderer defensive task_row) hidden_message) (tick 2 true (row (codes "task") ∷ []) [])
    ≡ CarriageReturn ∷ NoWrap ∷ EraseLine ∷ map Char (codes " task") ++ LineFeed ∷ EraseBelow ∷ Up 1 ∷ Wrap ∷ []
unfolding chars str_width step past_emoji
draws_erased = refl

-- unchanged rows without a message are left
pub leaves_unchanged : signs_at (next_renderer defensive task_row) (tick 1 true (row (codes "task") ∷ []) []) ≡ []
unfolding chars str_width step past_emoji
leaves_unchanged = refl

-- in a window of four rows three rows fit; of four there are two, and the line that counts the others; in one of a single row there is none
pub three_fit : fitting_count (Erasing 4 false false) 3 ≡ 3
three_fit = refl

pub two_of_four : fitting_count (Erasing 4 false false) 4 ≡ 2
two_of_four = refl

pub none_fits : fitting_count (Erasing 1 false false) 1 ≡ 0
none_fits = refl

pub others : line_text (more_line false 2) ≡ 32 ∷ 8230 ∷ codes " and 2 more"
unfolding digits
others = refl

pub others_in_ascii : line_text (more_line true 2) ≡ codes " ... and 2 more"
unfolding digits
others_in_ascii = refl

pub no_others : more_lines options 0 ≡ []
no_others = refl

pub no_row_for_others : more_lines (record options { terminal_dimensions = (40, 1) }) 2 ≡ []
no_row_for_others = refl

-- a row that is left over is erased, and no row is erased at the end
pub closes_erased : signs_at (next_renderer defensive task_row) (Quit 1) ≡ CarriageReturn ∷ NoWrap ∷ EraseLine ∷ LineFeed ∷ EraseBelow ∷ Up 1 ∷ Wrap ∷ []
unfolding chars str_width step past_emoji
closes_erased = refl

-- a synchronized update, and a message that isn't cut on four columns; the row is
abbrev whole : Renderer
whole = new_renderer (record options { defensive = true; synchronized = true; whole_messages = true; terminal_dimensions = (4, 3) }) false

pub whole_message : signs_at whole (tick 1 true (row (codes "task") ∷ []) (message_of 0 Info (codes "b") (codes "xyz") ∷ []))
    ≡ BeginUpdate ∷ CarriageReturn ∷ Wrap ∷ EraseLine ∷ LineFeed ∷ EraseBelow ∷ Up 1 ∷ map Char (codes " b xyz")
    ++ LineFeed ∷ NoWrap ∷ EraseLine ∷ map Char (codes " tas") ++ LineFeed ∷ EraseBelow ∷ Up 1 ∷ Wrap ∷ EndUpdate ∷ []
unfolding chars str_width step past_emoji longest_prefix
whole_message = refl

-- in a window of one row nothing is erased below the cursor's row, and no row is drawn
pub one_row : signs_at (new_renderer (record options { defensive = true; whole_messages = true; terminal_dimensions = (4, 1) }) false) (tick 1 true (row (codes "task") ∷ []) (message_of 0 Info (codes "b") (codes "xyz") ∷ []))
    ≡ CarriageReturn ∷ Wrap ∷ EraseLine ∷ map Char (codes " b xyz") ++ LineFeed ∷ NoWrap ∷ EraseBelow ∷ Wrap ∷ []
unfolding chars str_width step past_emoji longest_prefix
one_row = refl

-- without a terminal nothing is erased
pub erases_terminals : signs_at (new_renderer (record options { defensive = true; output_is_terminal = false }) false) (tick 0 true [] (message_of 0 Info (codes "b") (codes "x") ∷ []))
    ≡ map Char (codes " b x") ++ LineFeed ∷ []
unfolding chars str_width step past_emoji
erases_terminals = refl

-- ---- bars

-- bars on the columns that are left: three tenths of 26 cells; a bound of 0; brackets and arrow alone; none
pub three_tenths : line_text (bar (of_color Yellow) 30 3 (Some 10)) ≡ codes " [=======>-------------------]"
three_tenths = refl

pub bound_of_zero : line_text (bar (of_color Yellow) 14 0 (Some 0)) ≡ codes " [==========>]"
bound_of_zero = refl

pub no_cell : line_text (bar (of_color Yellow) 1 3 (Some 10)) ≡ codes " [>]"
no_cell = refl

pub no_column : line_text (bar (of_color Yellow) 0 3 (Some 10)) ≡ []
no_column = refl

-- a bar of at most 40 columns: on 100, of which it takes 40, and on 30, of which it takes all
abbrev at_most : ℕ → ℕ → Option ℕ → List ℕ
at_most most left bound = line_text (bar (of_color Yellow) (bar_columns (Some most) left) 3 bound)

pub forty_of_hundred : at_most 40 100 (Some 10) ≡ codes " [==========>--------------------------]"
forty_of_hundred = refl

pub all_of_thirty : at_most 40 30 (Some 10) ≡ codes " [=======>-------------------]"
all_of_thirty = refl

-- of at most four columns; no bar of at most three, or none
pub arrow_alone : at_most 4 100 (Some 10) ≡ codes " [>]"
arrow_alone = refl

pub none_of_three : at_most 3 100 (Some 10) ≡ []
none_of_three = refl

pub none_of_none : at_most 0 100 (Some 10) ≡ []
none_of_none = refl

-- a column is left: the bar is cut, as without a limit
pub one_left : at_most 40 1 (Some 10) ≡ codes " [>]"
one_left = refl

-- of at most eleven columns, without a bound
pub eleven_of_hundred : at_most 11 100 None ≡ codes " [  ===   ]"
eleven_of_hundred = refl

-- bars without a bound: eleven cells from 2; as many as there are numbers below 2^64-1; brackets alone; none
pub from_two : line_text (bar (of_color Yellow) 14 2 None) ≡ codes " [=   ===   =]"
from_two = refl

pub three_numbers_left : line_text (bar (of_color Yellow) 40 18446744073709551612 None) ≡ codes " [===]"
three_numbers_left = refl

pub no_number_left : line_text (bar (of_color Yellow) 40 18446744073709551615 None) ≡ codes " []"
no_number_left = refl

pub no_numbered_cell : line_text (bar (of_color Yellow) 1 2 None) ≡ codes " []"
no_numbered_cell = refl

pub no_column_without_bound : line_text (bar (of_color Yellow) 0 2 None) ≡ []
no_column_without_bound = refl

-- ---- colours and times

abbrev colored : Renderer
colored = new_renderer (record options { colored = true }) false

abbrev timed : Options
timed = record options { timestamp = true }

-- a text in a style
abbrev in_style : Style → List ℕ → List Sign
in_style style text = Open style ∷ map Char text ++ Reset ∷ []

abbrev style : Bool → Bool → Option Color → Bool → Style
style bold dim color on_yellow = record { bold = bold; dim = dim; color = color; on_yellow = on_yellow }

abbrev task : Phase → Option ℕ → PathRow
task phase bound = (0 ∷ [], record { name = codes "task"; id = unknown_id; progress = Some (record { counter = 3; bound = bound; unit = None; phase = phase }) })

-- three tenths: the bar in yellow, what is left of it dimmed
pub colored_row : signs_at colored (tick 0 true (task Running (Some 10) ∷ []) [])
    ≡ Char 32 ∷ in_style (style true false (Some Cyan) false) (codes "task")
    ++ Char 32 ∷ in_style (style true true None false) (codes "3/10")
    ++ map Char (codes " [") ++ in_style (style false false (Some Yellow) false) (codes "=======")
    ++ in_style (style false false (Some Yellow) false) (codes ">")
    ++ in_style (style false true (Some Yellow) false) (codes "-------------------")
    ++ map Char (codes "]") ++ LineFeed ∷ Up 1 ∷ []
unfolding chars str_width step past_emoji digits
colored_row = refl

-- without progress its name alone
pub colored_name : signs_at colored (tick 0 true (row (codes "task") ∷ []) []) ≡ Char 32 ∷ in_style (style true false (Some White) false) (codes "task") ++ LineFeed ∷ Up 1 ∷ []
unfolding chars str_width step past_emoji
colored_name = refl

-- a row without a name: no style is begun or ended
pub colored_empty : signs_at colored (tick 0 true (row [] ∷ []) []) ≡ Char 32 ∷ LineFeed ∷ Up 1 ∷ []
unfolding chars str_width step past_emoji
colored_empty = refl

-- a message one hour, two minutes and three seconds into a day, with its time; in colour; both
abbrev message_at : Input
message_at = tick 0 true [] (message_of 3723000000000 Failure (codes "task") (codes "one") ∷ [])

pub time_shown : signs_at (new_renderer timed false) message_at ≡ map Char (codes " 01:02:03 task one") ++ LineFeed ∷ []
unfolding chars str_width step past_emoji last_digits
time_shown = refl

pub colored_message : signs_at colored message_at
    ≡ Char 32 ∷ in_style (style false true None false) (codes "task") ++ Char 32 ∷ in_style (style true false (Some Red) false) (codes "one") ++ LineFeed ∷ []
unfolding chars str_width step past_emoji
colored_message = refl

pub colored_time : signs_at (new_renderer (record timed { colored = true }) false) message_at
    ≡ Char 32 ∷ in_style (style false true (Some Red) true) (codes "01:02:03")
    ++ Char 32 ∷ in_style (style false true None false) (codes "task") ++ Char 32 ∷ in_style (style true false (Some Red) false) (codes "one") ++ LineFeed ∷ []
unfolding chars str_width step past_emoji last_digits
colored_time = refl

-- the style of a row: green above four fifths, yellow up to it, white without a bound; dim red if it is halted, red if it is blocked
pub nine_tenths : row_style (record { counter = 9; bound = Some 10; unit = None; phase = Running }) ≡ of_color Green
nine_tenths = refl

pub four_fifths : row_style (record { counter = 8; bound = Some 10; unit = None; phase = Running }) ≡ of_color Yellow
four_fifths = refl

pub without_bound : row_style (record { counter = 9; bound = None; unit = None; phase = Running }) ≡ of_color White
without_bound = refl

pub halted : row_style (record { counter = 9; bound = Some 10; unit = None; phase = Halted (codes "now") None }) ≡ style false true (Some Red) false
halted = refl

pub halted_dimmed : dimmed (style false true (Some Red) false) ≡ style false true (Some Red) false
halted_dimmed = refl

pub blocked : row_style (record { counter = 9; bound = Some 10; unit = None; phase = Blocked (codes "now") None }) ≡ of_color Red
blocked = refl
