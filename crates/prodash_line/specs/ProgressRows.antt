-- The line of a row: its name, and with progress its values, its time and a bar.
use Rattle.std.specs.Prelude.{ℕ, ◌-◌, ◌*◌, ◌/◌, ◌%◌, ◌^◌, min, max, List, [], ◌∷◌, ◌++◌, length, map, take, zip, replicate, reverse, codes, if◌then◌else◌, ◌==◌, nat_eq, nat_lt, nat_le, Bool, true, ◌&&◌, ◌||◌, Option, Some, None}
use Rattle.std.specs.List.{range_with_len, filter}
use Rattle.std.specs.Fmt.{decimal}
use Rattle.prodash_base.specs.Kinds.{quantity_shown}
use Rattle.prodash_base.specs.Displays.{amount, values_text, unit_text}
use Rattle.prodash_base.specs.Units.{Measure}
use Rattle.prodash_base.specs.Rows.{RowProgress, PathRow}
use Rattle.prodash_base.specs.Trackers.{Tracker, frame_throughputs}
use Rattle.prodash_base.specs.Times.{time_text}
use Rattle.prodash_base.specs.Timers.{TimerState, row_time}
use Rattle.prodash_base.specs.declared.timing.task_time.TaskTime.{TaskTime}
use Rattle.prodash_base.specs.declared.unit.display.Throughput.{Throughput}
use Rattle.prodash_line.specs.declared.render.line.draw.input.Options.{Options}
use Rattle.prodash_line.specs.declared.render.line.page.style.Style.{Style}
use Rattle.prodash_line.specs.Lines.{Line, piece, styled, spaces, columns_of}
use Rattle.prodash_line.specs.declared.render.line.draw.layout.Layout.{Layout}
use Rattle.prodash_line.specs.declared.render.line.draw.layout.Layout.TheVariants.{Overwriting, Erasing}
use Rattle.prodash_line.specs.DrawnLines.{drawn_chars, as_drawn, layout_of}
use Rattle.prodash_line.specs.RowRanks.{places}
use Rattle.prodash_line.specs.TextStyles.{dimmed, name_style, values_style, row_style}

-- `step/bound`, or the step alone if there is no bound
abbrev pub fraction_of : ℕ → Option ℕ → List ℕ
fraction_of step None = decimal step
fraction_of step (Some bound) = decimal step ++ (codes "/" ++ decimal bound)

-- a row that is drawn, with the throughput that is shown in it, if there is one
abbrev pub DrawnRow : Type 0
DrawnRow = PathRow × Option Throughput

-- what each row says of its time, if anything
abbrev pub Times : Type 0
Times = PathRow → Option TaskTime

-- what rows say of their times at a moment; nothing without a timer
abbrev pub times_at : Option TimerState → ℕ → Times
times_at None at row = None
times_at (Some timer) at row = row_time timer at row

-- the values of a progress in a unit, a space and the unit
abbrev pub values_in : Bool → Measure → RowProgress → Option Throughput → Line
values_in defensive unit p throughput =
    let shown = quantity_shown unit.quantity in
    styled (Some values_style) (drawn_chars defensive (values_text shown unit.mode (amount p.counter p.bound throughput)))
    ∷ spaces 1
    ∷ piece (drawn_chars defensive (unit_text shown unit.mode (amount p.counter p.bound throughput)))
    ∷ []

-- the values of a progress without a unit
abbrev pub fraction_values : ℕ → Option ℕ → Line
fraction_values step bound = styled (Some values_style) (fraction_of step bound) ∷ []

-- the values of a progress: in this unit, or as a fraction if there is none
abbrev pub values_by : Bool → Option Measure → RowProgress → Option Throughput → Line
values_by defensive None p throughput = fraction_values p.counter p.bound
values_by defensive (Some unit) p throughput = values_in defensive unit p throughput

-- the values of a progress, in its unit if it has one
abbrev pub values_of : Bool → RowProgress → Option Throughput → Line
values_of defensive p throughput = values_by defensive p.unit p throughput

-- how many of a bar's cells are filled
abbrev pub filled_cells : ℕ → ℕ → ℕ → ℕ
filled_cells cells step bound = if bound == 0 then cells else cells * min step bound / bound

-- a bar of n cells, of which these are filled: brackets around the cells, an arrow after the filled ones, the others dimmed
abbrev pub bar_with : Style → ℕ → ℕ → Line
bar_with style cells filled =
    piece (codes " [")
    ∷ styled (Some style) (replicate filled 61)
    ∷ styled (Some style) (codes ">")
    ∷ styled (Some (dimmed style)) (replicate (cells - filled) 45)
    ∷ piece (codes "]")
    ∷ []

-- the bar of a progress with a bound: the space and the brackets take three columns, and the arrow takes one
abbrev pub bounded_bar : Style → ℕ → ℕ → ℕ → Line
bounded_bar style columns step bound = let cells = columns - 3 - 1 in bar_with style cells (filled_cells cells step bound)

-- the cell of a number: filled if its remainder by 6 is 0, 1 or 2
abbrev pub numbered_cell : ℕ → ℕ
numbered_cell number = if nat_lt (number % 6) 3 then 61 else 32

-- the cells of n numbers from the step upward, in reverse order
abbrev pub numbered_cells : ℕ → ℕ → List ℕ
numbered_cells step n = map numbered_cell (reverse (range_with_len step n))

-- the bar of a progress without a bound: brackets around the cells of the numbers from the step upward, as many as there are columns besides
-- the three of the space and the brackets, and none from 2^64-1 on
abbrev pub unbounded_bar : Style → ℕ → ℕ → Line
unbounded_bar style columns step =
    let n = min (columns - 3) (2 ^ 64 - 1 - step) in
    piece (codes " [") ∷ styled (Some style) (numbered_cells step n) ∷ piece (codes "]") ∷ []

-- the columns that a bar takes where this many are left: all of them, or with a limit no more than that; none if the limit is below four, since
-- the space, the brackets and the arrow take four
abbrev pub bar_columns : Option ℕ → ℕ → ℕ
bar_columns None left = left
bar_columns (Some most) left = if nat_lt most 4 then 0 else min most left

-- the bar in a style on these columns; none if there is no column
abbrev pub bar : Style → ℕ → ℕ → Option ℕ → Line
bar style columns step None = if columns == 0 then [] else unbounded_bar style columns step
bar style columns step (Some bound) = if columns == 0 then [] else bounded_bar style columns step bound

-- as many spaces as the path is long, and the name
abbrev pub head_of : Bool → PathRow → Line
head_of defensive row = spaces (length row.0) ∷ styled (Some (name_style row.1.progress)) (drawn_chars defensive row.1.name) ∷ []

-- a row up to its values, without padding
abbrev pub unpadded : Bool → PathRow → RowProgress → Option Throughput → Line
unpadded defensive row p throughput = head_of defensive row ++ (spaces 1 ∷ values_of defensive p throughput)

-- the column at which the values of a row with this progress end, without padding; 0 if there is no progress
abbrev pub midpoint_with : Bool → PathRow → Option RowProgress → Option Throughput → ℕ
midpoint_with defensive row None throughput = 0
midpoint_with defensive row (Some p) throughput = columns_of (unpadded defensive row p throughput)

-- the column at which a row's values end, without padding; 0 for a row without progress
abbrev pub midpoint_of : Bool → DrawnRow → ℕ
midpoint_of defensive drawn = midpoint_with defensive drawn.0 drawn.0.1.progress drawn.1

-- the greatest midpoint of some rows
abbrev pub greatest_midpoint : Bool → List DrawnRow → ℕ
greatest_midpoint defensive [] = 0
greatest_midpoint defensive (drawn ∷ others) = max (midpoint_of defensive drawn) (greatest_midpoint defensive others)

-- a row up to its values, with spaces before them that bring their end to this midpoint
abbrev pub padded : Bool → ℕ → PathRow → RowProgress → Option Throughput → Line
padded defensive midpoint row p throughput =
    head_of defensive row
    ++ (spaces 1 ∷ spaces (midpoint - columns_of (unpadded defensive row p throughput)) ∷ values_of defensive p throughput)

-- a time without what remains
abbrev pub without_remaining : TaskTime → TaskTime
without_remaining t = record t { remaining = None }

-- how long a task has run or took, alone
abbrev pub elapsed_alone : TaskTime → TaskTime
elapsed_alone t = record t { remaining = None; stalled = None }

-- a space and the first of these texts, where both fit on so many columns; nothing if none does
abbrev pub first_fitting : ℕ → List (List ℕ) → List ℕ
first_fitting columns [] = []
first_fitting columns (text ∷ others) = if nat_lt (length text) columns then codes " " ++ text else first_fitting columns others

-- a space and a time, as they fit on so many columns: all of it, or without what remains, or how long the task has run alone
abbrev pub fitting_time : ℕ → TaskTime → List ℕ
fitting_time columns t =
    first_fitting columns (time_text t ∷ time_text (without_remaining t) ∷ time_text (elapsed_alone t) ∷ [])

-- a space and a time, as they fit on the columns that are left
abbrev pub time_line : Bool → ℕ → TaskTime → Line
time_line defensive columns t = piece (drawn_chars defensive (fitting_time columns t)) ∷ []

-- the values of a row on a terminal of this width, and its time on the columns that are left; the values alone without a time
abbrev pub with_time : Bool → ℕ → Line → Option TaskTime → Line
with_time defensive width values None = values
with_time defensive width values (Some t) = values ++ time_line defensive (width - columns_of values) t

-- the line of a row with this progress, or without one
abbrev pub row_line_with : Bool → ℕ → Option ℕ → ℕ → PathRow → Option RowProgress → Option Throughput → Option TaskTime → Line
row_line_with defensive width most midpoint row None throughput time = head_of defensive row
row_line_with defensive width most midpoint row (Some p) throughput time =
    let values = with_time defensive width (padded defensive midpoint row p throughput) time in
    values ++ bar (row_style p) (bar_columns most (width - columns_of values)) p.counter p.bound

-- the line of a row on a terminal of this width: without progress its head alone, else its values, brought to this midpoint, its time if it has
-- one, and a bar on the columns that are left, or on as many of them as it takes at most
abbrev pub row_line : Bool → ℕ → Option ℕ → ℕ → DrawnRow → Option TaskTime → Line
row_line defensive width most midpoint drawn time =
    row_line_with defensive width most midpoint drawn.0 drawn.0.1.progress drawn.1 time

-- the line of a row as it is drawn
abbrev pub drawn_row_line : Options → ℕ → Times → DrawnRow → Line
drawn_row_line options midpoint times drawn =
    as_drawn options (row_line options.defensive options.terminal_dimensions.0 options.bar_columns midpoint drawn (times drawn.0))

-- the lines of rows as they are drawn
abbrev pub row_lines : Options → ℕ → Times → List DrawnRow → List Line
row_lines options midpoint times rows = map (drawn_row_line options midpoint times) rows

-- is a row drawn? without a filter it is; with one if its level is between these two, both included
abbrev pub is_row_drawn : Option (ℕ × ℕ) → PathRow → Bool
is_row_drawn None row = true
is_row_drawn (Some levels) row = nat_le levels.0 (length row.0) && nat_le (length row.0) levels.1

-- the rows at the levels that are drawn
abbrev pub filtered : Option (ℕ × ℕ) → List PathRow → List PathRow
filtered levels rows = filter (is_row_drawn levels) rows

-- rows with the throughputs that a tracker shows of them at a moment; without a tracker none has one
abbrev pub with_throughputs : Option Tracker → ℕ → List PathRow → List DrawnRow
with_throughputs None at rows = map (λ row. (row, None)) rows
with_throughputs (Some tracker) at rows = zip rows (frame_throughputs tracker at rows)

-- how many of n rows are drawn: all, or in a window of this height two fewer than it has rows, if they don't fit above its last row
abbrev pub fitting_count : Layout → ℕ → ℕ
fitting_count Overwriting n = n
fitting_count (Erasing height synchronized whole) n = if nat_lt n height then n else height - 2

-- those of rows before which fewer than n come
abbrev pub preferred : ℕ → List DrawnRow → List DrawnRow
preferred n rows = map (λ it. it.1) (filter (λ it. nat_lt it.0 n) (zip (places (map (λ drawn. drawn.0) rows)) rows))

-- the rows that are drawn: as many as fit, the first of them, or those of running tasks before others
abbrev pub fitting : Options → List DrawnRow → List DrawnRow
fitting options rows =
    let n = fitting_count (layout_of options) (length rows) in
    if options.prefer_running then preferred n rows else take n rows

-- an ellipsis: U+2026, or in ASCII three dots
abbrev pub ellipsis : Bool → List ℕ
ellipsis ascii = if ascii then codes "..." else 8230 ∷ []

-- ` … and n more`
abbrev pub more_line : Bool → ℕ → Line
more_line ascii n = piece (codes " " ++ (ellipsis ascii ++ codes " and ")) ∷ piece (decimal n) ∷ piece (codes " more") ∷ []

-- the line that says how many rows are hidden, if there are any and there is a row for it
abbrev pub more_lines : Options → ℕ → List Line
more_lines options n = if nat_eq n 0 || nat_lt options.terminal_dimensions.1 2 then [] else as_drawn options (more_line options.ascii n) ∷ []
