-- The progress pane: a tree of rows, the progress of each, and a line that says how many don't fit.
use Rattle.std.specs.Prelude.{◌≡◌, ℕ, zero, suc, ◌+◌, ◌-◌, ◌/◌, min, max, nat_lt, ◌==◌, Bool, true, false, List, ◌++◌, length, map, sum, take, drop, Option, Some, None, if◌then◌else◌}
use Rattle.prodash_base.specs.Rows.{RowProgress, PathRow, rows_of}
use Rattle.prodash_core.specs.declared.render.tui.event.Rect.{Rect}
use Rattle.prodash_line.specs.ProgressRows.{filled_cells}
use Rattle.prodash_tui.specs.declared.draw.progress.lines.Lines.{Lines}
use Rattle.prodash_tui.specs.declared.draw.progress.lines.Scroll.{Scroll}
use Rattle.prodash_tui.specs.declared.draw.progress.tasks.Tasks.{Tasks}
use Rattle.prodash_tui.specs.declared.style.Color.TheVariants.{Red, Green}
use Rattle.prodash_tui.specs.declared.style.Style.{Style}
use Rattle.prodash_tui.specs.Bars.{bar_color, bar_columns, black_on, first_columns, spinner_color, with_bar, with_spinner, with_text_across}
use Rattle.prodash_tui.specs.Cells.{plain}
use Rattle.prodash_tui.specs.Grids.{Sheet, with_background, with_filling, with_shortened}
use Rattle.prodash_tui.specs.Offsets.{sanitize_offset}
use Rattle.prodash_tui.specs.Panes.{bold, vertical_line}
use Rattle.prodash_tui.specs.Rates.{Rates, rate_at}
use Rattle.prodash_tui.specs.Rects.{bottom_of, line_bound, offset_x}
use Rattle.prodash_tui.specs.RowTexts.{amount_columns, branches_of, has_child, hidden_text, keys_text, label_text, row_at, title_text, tree_row_columns, tree_text}
use Rattle.prodash_tui.specs.Texts.{block_width}

-- so many lines, each drawn after those above it
abbrev pub with_lines : ℕ → (ℕ → Sheet → Sheet) → Sheet → Sheet
with_lines zero draw g = g
with_lines (suc n) draw g = draw n (with_lines n draw g)

-- the greatest of the numbers of the first n lines; 0 of none
abbrev pub greatest : ℕ → (ℕ → ℕ) → ℕ
greatest zero numbers = 0
greatest (suc n) numbers = max (greatest n numbers) (numbers n)

-- how many rows from an offset on a rectangle shows
abbrev pub shown_count : List PathRow → Rect → ℕ → ℕ
shown_count rows area offset = min (length rows - offset) area.height

-- ---- the tree

-- the style of a row of the tree: groups are bold
abbrev pub tree_style : Option RowProgress → Style
tree_style None = bold
tree_style (Some p) = plain

-- a line of the tree: it begins a column left of its rectangle, and ends two columns left of the rectangle's right edge
abbrev pub tree_line : Rect → ℕ → Rect
tree_line area line = record (line_bound area line) { x = area.x - 1; width = area.width - 1 }

-- row i of the tree on a line
abbrev pub with_tree_row : List PathRow → ℕ → Rect → Sheet → Sheet
with_tree_row rows i line g = with_shortened line (tree_style (row_at rows i).1.progress) (tree_text rows i) g

-- the tree of the rows from an offset on
abbrev pub with_tree : List PathRow → Rect → ℕ → Sheet → Sheet
with_tree rows area offset g =
    with_lines (shown_count rows area offset) (λ line g. with_tree_row rows (offset + line) (tree_line area line) g) g

-- the columns of the widest row in it, with one behind it
abbrev pub tree_columns : List PathRow → Rect → ℕ → ℕ
tree_columns rows area offset =
    greatest (shown_count rows area offset) (λ line. tree_row_columns rows (offset + line))

-- ---- the progress of rows

-- a line behind the branches that lead to a row
abbrev pub behind_branches : List PathRow → ℕ → Rect → Rect
behind_branches rows i line = offset_x line (block_width (branches_of rows i))

-- the branches that lead to row i; a vertical line if there are none
abbrev pub with_branches : List PathRow → ℕ → Rect → Sheet → Sheet
with_branches rows i line g = with_shortened line plain (branches_of rows i) (with_shortened line plain vertical_line g)

-- how many columns the line of a group has, in a pane of so many columns
abbrev pub rule_columns : Bool → ℕ → ℕ
rule_columns true columns = max 1 (columns - 3)
rule_columns false columns = 1

-- a group: a line, and its title over it
abbrev pub with_group : List ℕ → ℕ → Rect → Sheet → Sheet
with_group name columns line g =
    with_shortened line bold (title_text name) (with_filling (first_columns (offset_x line 1) columns) plain 0x2500 g)

-- a progress with a bound: a bar, and its label over it
abbrev pub with_bounded : RowProgress → ℕ → List ℕ → Rect → Sheet → Sheet
with_bounded p bound label line g =
    let color = bar_color p bound in
    with_text_across line (bar_columns line.width p.counter bound) (black_on color) plain label (with_bar line p.counter bound color g)

-- a progress with this bound, or without one: its label, and a spinner that begins behind the widest amount
abbrev pub with_value : RowProgress → Option ℕ → List ℕ → Lines → ℕ → Rect → Sheet → Sheet
with_value p None label lines line behind g =
    with_spinner (offset_x (line_bound lines.area line) lines.amount_columns) (p.counter + line) (spinner_color p)
    (with_shortened behind plain label g)
with_value p (Some bound) label lines line behind g = with_bounded p bound label behind g

-- a row behind its branches: a group, or a progress with its throughput
abbrev pub with_progress : Option RowProgress → List PathRow → Rates → Lines → ℕ → Rect → Sheet → Sheet
with_progress None rows rates lines line behind g =
    let i = lines.offset + line in with_group (row_at rows i).1.name (rule_columns (has_child rows i) lines.area.width) behind g
with_progress (Some p) rows rates lines line behind g =
    with_value p p.bound (label_text lines.at (rate_at rates (lines.offset + line)) p) lines line behind g

-- a row on a line: its branches, and what is behind them
abbrev pub with_row : List PathRow → Rates → Lines → ℕ → Sheet → Sheet
with_row rows rates lines line g =
    let i = lines.offset + line in
    let bound = line_bound lines.area line in
    with_progress (row_at rows i).1.progress rows rates lines line (behind_branches rows i bound) (with_branches rows i bound g)

-- rows on lines, from an offset on
abbrev pub with_rows : List PathRow → Rates → Lines → Sheet → Sheet
with_rows rows rates lines g = with_lines (shown_count rows lines.area lines.offset) (λ line g. with_row rows rates lines line g) g

-- the columns of the widest amount of the rows from an offset on
abbrev pub widest_amount : List PathRow → Rect → ℕ → ℕ
widest_amount rows area offset =
    greatest (shown_count rows area offset) (λ line. amount_columns (row_at rows (offset + line)).1.progress)

-- ---- rows that are hidden

-- how much of a bound is done, in millionths, rounded down; 0 without a bound
abbrev pub share_of : ℕ → Option ℕ → ℕ
share_of step None = 0
share_of step (Some bound) = filled_cells 1000000 step bound

-- how much of a row is done; 0 of a group
abbrev pub row_share : Option RowProgress → ℕ
row_share None = 0
row_share (Some p) = share_of p.counter p.bound

-- how much of rows is done in all
abbrev pub total_share : List PathRow → ℕ
total_share rows = sum (map (λ row. row_share row.1.progress) rows)

-- how much of rows is done in the mean, rounded down
abbrev pub mean_share : List PathRow → ℕ
mean_share rows = total_share rows / max 1 (length rows)

-- the rows before an offset, and those behind the ones that are shown
abbrev pub hidden : ℕ → ℕ → List PathRow → List PathRow
hidden offset shown rows = take offset rows ++ drop (offset + shown) rows

-- a text over a bar that is black on green up to this column of its rectangle, and on red behind it
abbrev pub with_text_on : Rect → ℕ → ℕ → List ℕ → Sheet → Sheet
with_text_on area filled column text g = with_text_across (offset_x area column) (filled - column) (black_on Green) (black_on Red) text g

-- how many rows are hidden and how much of them is done, behind a tree of so many columns
abbrev pub with_overflow : List PathRow → ℕ → ℕ → ℕ → Rect → Sheet → Sheet
with_overflow rows offset shown tree area g =
    let share = mean_share (hidden offset shown rows) in
    let filled = bar_columns area.width share 1000000 in
    with_text_on area filled (area.width - block_width keys_text) keys_text
    (with_text_on area filled tree (hidden_text tree offset (length rows - (offset + shown)))
    (with_background (offset_x area (filled - 1)) Red (with_bar area share 1000000 Green g)))

-- ---- the pane

-- do rows not fit on the lines of a rectangle?
abbrev pub overflows : List PathRow → Rect → Bool
overflows rows area = nat_lt area.height (length rows)

-- the lines of a rectangle that show rows: all but the last, if they don't fit
abbrev pub rows_area : List PathRow → Rect → Rect
rows_area rows area = record area { height = if overflows rows area then area.height - 1 else area.height }

-- how many rows are skipped before the first that is shown
abbrev pub rows_offset : List PathRow → Rect → ℕ → ℕ
rows_offset rows area offset = sanitize_offset offset (length rows) (rows_area rows area).height

-- how many columns the tree has: a third of the pane's until its width is known, none if that is less than 20, and never more than half of them
abbrev pub tree_width : Rect → ℕ → ℕ
tree_width area known = if nat_lt (area.width / 3) 20 then 0 else if known == 0 then area.width / 3 else min known (area.width / 2)

-- the tree on so many columns, if there are any
abbrev pub with_tree_on : ℕ → List PathRow → Rect → ℕ → Sheet → Sheet
with_tree_on columns rows area offset g =
    if columns == 0 then g else with_tree rows (first_columns area columns) offset g

-- the lines for rows behind a tree of so many columns
abbrev pub lines_behind : ℕ → List PathRow → Rect → ℕ → ℕ → Lines
lines_behind columns rows area offset at =
    let behind = offset_x area columns in
    record { area = behind; offset = offset; amount_columns = widest_amount rows behind offset; at = at }

-- the line that says what is hidden, if rows don't fit
abbrev pub with_hidden : List PathRow → ℕ → ℕ → Rect → Sheet → Sheet
with_hidden rows offset tree area g =
    if overflows rows area then with_overflow rows offset (rows_area rows area).height tree (bottom_of area) g else g

-- the pane in a rectangle, of rows with their throughputs at a moment
abbrev pub with_progress_pane : List PathRow → Rates → ℕ → Scroll → Rect → Sheet → Sheet
with_progress_pane rows rates at scroll area g =
    let tree = tree_width area scroll.tree_columns in
    let shown = rows_area rows area in
    let offset = rows_offset rows area scroll.offset in
    with_hidden rows offset tree area (with_rows rows rates (lines_behind tree rows shown offset at) (with_tree_on tree rows shown offset g))

-- the pane of these tasks is drawn
abbrev pub DrawsPane : Tasks → Scroll → Rect → Sheet → Sheet → Type 0
DrawsPane tasks scroll area old new = new ≡ with_progress_pane (rows_of tasks.rows.now) tasks.rates.now tasks.at scroll area old

-- the columns of the widest row of a tree on so many columns; 0 if there are none
abbrev pub known_columns : ℕ → List PathRow → Rect → ℕ → ℕ
known_columns columns rows area offset = if columns == 0 then 0 else tree_columns rows (first_columns area columns) offset

-- how far the pane is scrolled then, and how wide its tree is
abbrev pub scrolled : List PathRow → Scroll → Rect → Scroll
scrolled rows scroll area =
    let offset = rows_offset rows area scroll.offset in
    record { offset = offset; tree_columns = known_columns (tree_width area scroll.tree_columns) rows (rows_area rows area) offset }
