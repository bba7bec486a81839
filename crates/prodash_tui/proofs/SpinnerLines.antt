-- Rows are drawn the same however wide amounts are, if none of them has a spinner.
use Rattle.std.proofs.Common.{◌≡◌, ℕ, zero, suc, ◌+◌, Bool, true, false, cond, Option, Some, None, List, refl, ap, ◌∙◌}
use Rattle.std.specs.Option.{is_some}
use Rattle.std.specs.Prelude.{not, ◌||◌}
use Rattle.prodash_base.specs.Rows.{RowProgress, PathRow}
use Rattle.prodash_core.specs.declared.render.tui.event.Rect.{Rect}
use Rattle.prodash_tui.specs.declared.draw.progress.lines.Lines.{Lines}
use Rattle.prodash_tui.specs.Grids.{Sheet}
use Rattle.prodash_tui.specs.ProgressPanes.{behind_branches, lines_behind, shown_count, with_branches, with_lines, with_progress, with_row, with_rows, with_value}
use Rattle.prodash_tui.specs.Rates.{Rates}
use Rattle.prodash_tui.specs.Rects.{line_bound, offset_x}
use Rattle.prodash_tui.specs.RowTexts.{row_at}
use Rattle.prodash_tui.specs.plumbing.Spinners.{any_line, is_boundless, lines_for, shows_spinner}

-- these lines with another width of amounts
abbrev wide : ℕ → Lines → Lines
wide n lines = record lines { amount_columns = n }

neither : (a b : Bool) → (a || b) ≡ false → (a ≡ false) × (b ≡ false)
neither true b h = absurd (cc)
neither false b h = (refl, h)

value_same : (p : RowProgress) (bound : Option ℕ) (label : List ℕ) (lines : Lines) (n line : ℕ) (behind : Rect) (g : Sheet) → not (is_some bound) ≡ false
    → with_value p bound label (wide n lines) line behind g ≡ with_value p bound label lines line behind g
value_same p None label lines n line behind g h = absurd (cc)
value_same p (Some b) label lines n line behind g h = refl

progress_same : (p : Option RowProgress) (rows : List PathRow) (rates : Rates) (lines : Lines) (n line : ℕ) (behind : Rect) (g : Sheet) → is_boundless p ≡ false
    → with_progress p rows rates (wide n lines) line behind g ≡ with_progress p rows rates lines line behind g
progress_same None rows rates lines n line behind g h = refl
progress_same (Some p) rows rates lines n line behind g h = value_same p p.bound _ lines n line behind g h

lines_same : (n : ℕ) (test : ℕ → Bool) (draw other : ℕ → Sheet → Sheet) (g : Sheet) → any_line n test ≡ false
    → ((line : ℕ) (h : Sheet) → test line ≡ false → draw line h ≡ other line h) → with_lines n draw g ≡ with_lines n other g
lines_same zero test draw other g none same = refl
lines_same (suc n) test draw other g none same =
    let parts = neither (any_line n test) (test n) none in
    same n (with_lines n draw g) parts.1 ∙ ap (other n) (lines_same n test draw other g parts.0 same)

rows_same : (rows : List PathRow) (rates : Rates) (lines : Lines) (n : ℕ) (g : Sheet) → shows_spinner rows lines.area lines.offset ≡ false
    → with_rows rows rates (wide n lines) g ≡ with_rows rows rates lines g
rows_same rows rates lines n g none =
    lines_same (shown_count rows lines.area lines.offset) (λ line. is_boundless (row_at rows (lines.offset + line)).1.progress)
    (λ line h. with_row rows rates (wide n lines) line h) (λ line h. with_row rows rates lines line h) g none
    (λ line h bound. progress_same (row_at rows (lines.offset + line)).1.progress rows rates lines n line
    (behind_branches rows (lines.offset + line) (line_bound lines.area line)) (with_branches rows (lines.offset + line) (line_bound lines.area line) h) bound)

-- with or without a spinner
either : (b : Bool) (rows : List PathRow) (rates : Rates) (lines : Lines) (g : Sheet) → shows_spinner rows lines.area lines.offset ≡ b
    → with_rows rows rates (wide (cond b lines.amount_columns 0) lines) g ≡ with_rows rows rates lines g
either true rows rates lines g h = refl
either false rows rates lines g h = rows_same rows rates lines 0 g h

pub rows_as_behind : (columns : ℕ) (rows : List PathRow) (rates : Rates) (area : Rect) (offset at : ℕ) (g : Sheet)
    → with_rows rows rates (lines_for columns rows area offset at) g ≡ with_rows rows rates (lines_behind columns rows area offset at) g
rows_as_behind columns rows rates area offset at g =
    either (shows_spinner rows (offset_x area columns) offset) rows rates (lines_behind columns rows area offset at) g refl
