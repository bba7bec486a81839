-- Bars, texts over them, and spinners.
use Rattle.std.specs.Prelude.{ℕ, ◌+◌, ◌-◌, ◌*◌, ◌/◌, ◌%◌, min, max, ◌==◌, nat_le, List, Some, if◌then◌else◌}
use Rattle.prodash_base.specs.Rows.{Phase, Blocked, Halted, Running, RowProgress}
use Rattle.prodash_core.specs.declared.render.tui.event.Rect.{Rect}
use Rattle.prodash_line.specs.ProgressRows.{filled_cells}
use Rattle.prodash_tui.specs.declared.style.Color.{Color}
use Rattle.prodash_tui.specs.declared.style.Color.TheVariants.{Black, Red, Green, Yellow, White, LightRed}
use Rattle.prodash_tui.specs.declared.style.Style.{Style}
use Rattle.prodash_tui.specs.Cells.{plain}
use Rattle.prodash_tui.specs.Grids.{Sheet, with_background, with_filling, with_text}
use Rattle.prodash_tui.specs.Rects.{left_side_of, offset_x}

-- the first columns of a rectangle
abbrev pub first_columns : Rect → ℕ → Rect
first_columns area columns = record area { width = min columns area.width }

-- characters in a colour
abbrev pub inked : Color → Style
inked color = record plain { foreground = Some color }

-- black characters on a colour
abbrev pub black_on : Color → Style
black_on color = record plain { foreground = Some Black; background = Some color }

-- how many eighths of the cell behind the filled ones of a bar are filled, rounded to the nearest, and up from a half on
abbrev pub eighths : ℕ → ℕ → ℕ → ℕ
eighths cells step bound = if bound == 0 then 0 else (16 * (cells * min step bound % bound) + bound) / (2 * bound)

-- the character of a cell of which so many eighths are filled: a space, or U+258F for one up to U+2588 for all eight
abbrev pub block : ℕ → ℕ
block filled = if filled == 0 then 32 else 0x2590 - filled

-- how many of so many cells a bar takes: the filled ones, and the one behind them
abbrev pub bar_columns : ℕ → ℕ → ℕ → ℕ
bar_columns cells step bound = min (filled_cells cells step bound + 1) cells

-- a bar in a rectangle: filled cells, and the one behind them
abbrev pub with_bar : Rect → ℕ → ℕ → Color → Sheet → Sheet
with_bar area step bound color g =
    let filled = filled_cells area.width step bound in
    with_filling (left_side_of (offset_x area filled)) (inked color) (block (eighths area.width step bound))
    (with_filling (first_columns area filled) (inked color) 0x2588 g)

-- a text, of which what is in the first columns has a style of its own
abbrev pub with_text_across : Rect → ℕ → Style → Style → List ℕ → Sheet → Sheet
with_text_across area columns first rest text g = with_text (first_columns area columns) first text (with_text area rest text g)

-- the five columns of a spinner, or those of them that are in its rectangle; they move with the step, and begin again at the left
abbrev pub spinner_of : Rect → ℕ → Rect
spinner_of area step = first_columns (offset_x area (step % max area.width 1)) 5

-- a spinner
abbrev pub with_spinner : Rect → ℕ → Color → Sheet → Sheet
with_spinner area step color g = with_background (spinner_of area step) color g

-- the colour of a task: red or light red if it can't go on, else the one of a running task
abbrev pub color_in : Phase → Color → Color
color_in (Blocked reason eta) running = Red
color_in (Halted reason eta) running = LightRed
color_in Running running = running

-- the colour of the bar of a running task: green from four fifths on
abbrev pub running_color : ℕ → ℕ → Color
running_color step bound = if nat_le (4 * bound) (5 * step) then Green else Yellow

-- the colour of a bar
abbrev pub bar_color : RowProgress → ℕ → Color
bar_color p bound = color_in p.phase (running_color p.counter bound)

-- the colour of a spinner
abbrev pub spinner_color : RowProgress → Color
spinner_color p = color_in p.phase White
