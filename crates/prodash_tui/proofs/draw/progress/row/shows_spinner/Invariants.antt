use Rattle.std.proofs.Common.{◌≡◌, ◌+◌}
use Rattle.prodash_base.specs.Rows.{rows_of}
use Rattle.prodash_tui.specs.RowTexts.{row_at}
use Rattle.prodash_tui.specs.plumbing.Spinners.{any_line, is_boundless}
use Rattle.prodash_tui.proofs.draw.progress.row.shows_spinner.Given as goal

abbrev pub invariant-loop-line : goal.invariant-loop-line
invariant-loop-line l = l.found ≡ any_line l.line (λ line. is_boundless (row_at (rows_of l.rows) (l.offset + line)).1.progress)
