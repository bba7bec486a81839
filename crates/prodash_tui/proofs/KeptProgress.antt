-- A property of grids that each drawing word keeps is kept by a progress pane.
use Rattle.std.proofs.Common.{ℕ, zero, suc, ◌+◌, ◌-◌, Option, Some, None, List, length}
use Rattle.std.specs.Prelude.{◌==◌}
use Rattle.prodash_base.specs.Rows.{PathRow, RowProgress}
use Rattle.prodash_core.specs.declared.render.tui.event.Rect.{Rect}
use Rattle.prodash_line.specs.ProgressRows.{filled_cells}
use Rattle.prodash_tui.specs.declared.draw.progress.lines.Lines.{Lines}
use Rattle.prodash_tui.specs.declared.draw.progress.lines.Scroll.{Scroll}
use Rattle.prodash_tui.specs.declared.style.Color.{Color}
use Rattle.prodash_tui.specs.declared.style.Color.TheVariants.{Red, Green}
use Rattle.prodash_tui.specs.declared.style.Style.{Style}
use Rattle.prodash_tui.specs.Bars.{bar_color, bar_columns, black_on, block, eighths, first_columns, inked, spinner_color, spinner_of, with_bar, with_text_across}
use Rattle.prodash_tui.specs.Cells.{plain}
use Rattle.prodash_tui.specs.Grids.{Sheet, with_background, with_filling, with_shortened, with_text}
use Rattle.prodash_tui.specs.Panes.{bold, vertical_line}
use Rattle.prodash_tui.specs.ProgressPanes.{behind_branches, hidden, lines_behind, mean_share, overflows, rows_area, rows_offset, rule_columns, shown_count, tree_line, tree_style, tree_width, with_bounded, with_branches, with_group, with_hidden, with_lines, with_overflow, with_progress, with_progress_pane, with_row, with_rows, with_text_on, with_tree, with_tree_on, with_tree_row, with_value}
use Rattle.prodash_tui.specs.Rates.{Rates, rate_at}
use Rattle.prodash_tui.specs.Rects.{bottom_of, left_side_of, line_bound, offset_x}
use Rattle.prodash_tui.specs.RowTexts.{branches_of, has_child, hidden_text, keys_text, label_text, row_at, title_text, tree_text}
use Rattle.prodash_tui.specs.Texts.{block_width}
use Rattle.prodash_tui.proofs.KeptPanes.{Words, kept_choice}

-- ---- bars

kept_bar : {P : Sheet → Type 0} (k : Words P) (area : Rect) (step bound : ℕ) (color : Color) (g : Sheet) → P g → P (with_bar area step bound color g)
kept_bar k area step bound color g h =
    let filled = filled_cells area.width step bound in
    k.filling (left_side_of (offset_x area filled)) (inked color) (block (eighths area.width step bound)) (with_filling (first_columns area filled) (inked color) 0x2588 g)
    (k.filling (first_columns area filled) (inked color) 0x2588 g h)

kept_across : {P : Sheet → Type 0} (k : Words P) (area : Rect) (columns : ℕ) (first rest : Style) (text : List ℕ) (g : Sheet) → P g → P (with_text_across area columns first rest text g)
kept_across k area columns first rest text g h =
    k.text (first_columns area columns) first text (with_text area rest text g) (k.text area rest text g h)

kept_all : {P : Sheet → Type 0} (k : Words P) (n : ℕ) (draw : ℕ → Sheet → Sheet) → ((line : ℕ) (g : Sheet) → P g → P (draw line g)) → (g : Sheet) → P g → P (with_lines n draw g)
kept_all k zero draw each g h = h
kept_all k (suc n) draw each g h = each n (with_lines n draw g) (kept_all k n draw each g h)

-- ---- rows

kept_tree : {P : Sheet → Type 0} (k : Words P) (rows : List PathRow) (area : Rect) (offset : ℕ) (g : Sheet) → P g → P (with_tree rows area offset g)
kept_tree k rows area offset g h =
    kept_all k (shown_count rows area offset) (λ line g. with_tree_row rows (offset + line) (tree_line area line) g)
    (λ line g h. k.shortened (tree_line area line) (tree_style (row_at rows (offset + line)).1.progress) (tree_text rows (offset + line)) g h) g h

kept_branches : {P : Sheet → Type 0} (k : Words P) (rows : List PathRow) (i : ℕ) (line : Rect) (g : Sheet) → P g → P (with_branches rows i line g)
kept_branches k rows i line g h =
    k.shortened line plain (branches_of rows i) (with_shortened line plain vertical_line g) (k.shortened line plain vertical_line g h)

kept_group : {P : Sheet → Type 0} (k : Words P) (name : List ℕ) (columns : ℕ) (line : Rect) (g : Sheet) → P g → P (with_group name columns line g)
kept_group k name columns line g h =
    let rule = first_columns (offset_x line 1) columns in
    k.shortened line bold (title_text name) (with_filling rule plain 0x2500 g) (k.filling rule plain 0x2500 g h)

kept_bounded : {P : Sheet → Type 0} (k : Words P) (p : RowProgress) (bound : ℕ) (label : List ℕ) (line : Rect) (g : Sheet) → P g → P (with_bounded p bound label line g)
kept_bounded k p bound label line g h =
    let color = bar_color p bound in
    kept_across k line (bar_columns line.width p.counter bound) (black_on color) plain label (with_bar line p.counter bound color g) (kept_bar k line p.counter bound color g h)

kept_value : {P : Sheet → Type 0} (k : Words P) (p : RowProgress) (bound : Option ℕ) (label : List ℕ) (lines : Lines) (line : ℕ) (behind : Rect) (g : Sheet) → P g → P (with_value p bound label lines line behind g)
kept_value k p None label lines line behind g h =
    let area = offset_x (line_bound lines.area line) lines.amount_columns in
    k.background (spinner_of area (p.counter + line)) (spinner_color p) (with_shortened behind plain label g) (k.shortened behind plain label g h)
kept_value k p (Some bound) label lines line behind g h = kept_bounded k p bound label behind g h

kept_progress : {P : Sheet → Type 0} (k : Words P) (p : Option RowProgress) (rows : List PathRow) (rates : Rates) (lines : Lines) (line : ℕ) (behind : Rect) (g : Sheet) → P g
    → P (with_progress p rows rates lines line behind g)
kept_progress k None rows rates lines line behind g h =
    let i = lines.offset + line in
    kept_group k (row_at rows i).1.name (rule_columns (has_child rows i) lines.area.width) behind g h
kept_progress k (Some p) rows rates lines line behind g h =
    kept_value k p p.bound (label_text lines.at (rate_at rates (lines.offset + line)) p) lines line behind g h

kept_row : {P : Sheet → Type 0} (k : Words P) (rows : List PathRow) (rates : Rates) (lines : Lines) (line : ℕ) (g : Sheet) → P g → P (with_row rows rates lines line g)
kept_row k rows rates lines line g h =
    let i = lines.offset + line in
    let bound = line_bound lines.area line in
    kept_progress k (row_at rows i).1.progress rows rates lines line (behind_branches rows i bound) (with_branches rows i bound g) (kept_branches k rows i bound g h)

kept_rows : {P : Sheet → Type 0} (k : Words P) (rows : List PathRow) (rates : Rates) (lines : Lines) (g : Sheet) → P g → P (with_rows rows rates lines g)
kept_rows k rows rates lines g h =
    kept_all k (shown_count rows lines.area lines.offset) (λ line g. with_row rows rates lines line g) (λ line g h. kept_row k rows rates lines line g h) g h

-- ---- the pane

kept_text_on : {P : Sheet → Type 0} (k : Words P) (area : Rect) (filled column : ℕ) (text : List ℕ) (g : Sheet) → P g → P (with_text_on area filled column text g)
kept_text_on k area filled column text g h = kept_across k (offset_x area column) (filled - column) (black_on Green) (black_on Red) text g h

kept_overflow : {P : Sheet → Type 0} (k : Words P) (rows : List PathRow) (offset shown tree : ℕ) (area : Rect) (g : Sheet) → P g → P (with_overflow rows offset shown tree area g)
kept_overflow k rows offset shown tree area g h =
    let share = mean_share (hidden offset shown rows) in
    let filled = bar_columns area.width share 1000000 in
    let bar = with_bar area share 1000000 Green g in
    let colored = with_background (offset_x area (filled - 1)) Red bar in
    let text = hidden_text tree offset (length rows - (offset + shown)) in
    kept_text_on k area filled (area.width - block_width keys_text) keys_text (with_text_on area filled tree text colored)
    (kept_text_on k area filled tree text colored (k.background (offset_x area (filled - 1)) Red bar (kept_bar k area share 1000000 Green g h)))

kept_hidden : {P : Sheet → Type 0} (k : Words P) (rows : List PathRow) (offset tree : ℕ) (area : Rect) (g : Sheet) → P g → P (with_hidden rows offset tree area g)
kept_hidden k rows offset tree area g h =
    kept_choice k (overflows rows area) (with_overflow rows offset (rows_area rows area).height tree (bottom_of area) g) g
    (kept_overflow k rows offset (rows_area rows area).height tree (bottom_of area) g h) h

kept_tree_on : {P : Sheet → Type 0} (k : Words P) (columns : ℕ) (rows : List PathRow) (area : Rect) (offset : ℕ) (g : Sheet) → P g → P (with_tree_on columns rows area offset g)
kept_tree_on k columns rows area offset g h =
    kept_choice k (columns == 0) g (with_tree rows (first_columns area columns) offset g) h (kept_tree k rows (first_columns area columns) offset g h)

pub kept_pane : {P : Sheet → Type 0} (k : Words P) (rows : List PathRow) (rates : Rates) (at : ℕ) (scroll : Scroll) (area : Rect) (g : Sheet) → P g
    → P (with_progress_pane rows rates at scroll area g)
kept_pane k rows rates at scroll area g h =
    let tree = tree_width area scroll.tree_columns in
    let shown = rows_area rows area in
    let offset = rows_offset rows area scroll.offset in
    let lines = lines_behind tree rows shown offset at in
    let left = with_tree_on tree rows shown offset g in
    kept_hidden k rows offset tree area (with_rows rows rates lines left) (kept_rows k rows rates lines left (kept_tree_on k tree rows shown offset g h))
