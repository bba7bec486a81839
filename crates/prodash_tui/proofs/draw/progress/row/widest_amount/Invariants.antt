use Rattle.std.proofs.Common.{◌≡◌, ◌+◌}
use Rattle.prodash_base.specs.Rows.{rows_of}
use Rattle.prodash_tui.specs.ProgressPanes.{greatest}
use Rattle.prodash_tui.specs.RowTexts.{amount_columns, row_at}
use Rattle.prodash_tui.proofs.draw.progress.row.widest_amount.Given as goal

abbrev pub invariant-loop-line : goal.invariant-loop-line
invariant-loop-line l = l.columns ≡ greatest l.line (λ line. amount_columns (row_at (rows_of l.rows) (l.offset + line)).1.progress)
