use Rattle.std.proofs.Common.{◌≡◌}
use Rattle.prodash_base.specs.Rows.{rows_of}
use Rattle.prodash_tui.specs.ProgressPanes.{with_lines, with_row}
use Rattle.prodash_tui.proofs.draw.progress.row.draw_rows.Given as goal

abbrev pub invariant-loop-line : goal.invariant-loop-line
invariant-loop-line l = l.grid ≡ with_lines l.line (λ line g. with_row (rows_of l.rows) l.rates l.lines line g) l.fn.grid
