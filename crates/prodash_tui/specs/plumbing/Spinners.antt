-- Rows without a bound, whose spinners alone begin behind the widest amount.
use Rattle.std.specs.Prelude.{ℕ, zero, suc, ◌+◌, Bool, false, not, ◌||◌, List, Option, Some, None, if◌then◌else◌}
use Rattle.std.specs.Option.{is_some}
use Rattle.prodash_base.specs.Rows.{RowProgress, PathRow}
use Rattle.prodash_core.specs.declared.render.tui.event.Rect.{Rect}
use Rattle.prodash_tui.specs.declared.draw.progress.lines.Lines.{Lines}
use Rattle.prodash_tui.specs.ProgressPanes.{lines_behind, shown_count, widest_amount}
use Rattle.prodash_tui.specs.Rects.{offset_x}
use Rattle.prodash_tui.specs.RowTexts.{row_at}

-- is it a progress without a bound?
abbrev pub is_boundless : Option RowProgress → Bool
is_boundless None = false
is_boundless (Some p) = not (is_some p.bound)

-- does one of the first n lines pass a test?
abbrev pub any_line : ℕ → (ℕ → Bool) → Bool
any_line zero test = false
any_line (suc n) test = any_line n test || test n

-- has one of the rows that are shown a progress without a bound?
abbrev pub shows_spinner : List PathRow → Rect → ℕ → Bool
shows_spinner rows area offset =
    any_line (shown_count rows area offset) (λ line. is_boundless (row_at rows (offset + line)).1.progress)

-- the columns of the widest amount if a spinner is drawn; 0 if none is
abbrev pub columns_before_spinners : List PathRow → Rect → ℕ → ℕ
columns_before_spinners rows area offset = if shows_spinner rows area offset then widest_amount rows area offset else 0

-- the lines behind a tree, without the columns of amounts if no spinner is drawn
abbrev pub lines_for : ℕ → List PathRow → Rect → ℕ → ℕ → Lines
lines_for columns rows area offset at =
    record (lines_behind columns rows area offset at) { amount_columns = columns_before_spinners rows (offset_x area columns) offset }
