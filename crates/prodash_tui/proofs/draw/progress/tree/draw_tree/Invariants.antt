use Rattle.std.proofs.Common.{◌≡◌, ◌+◌}
use Rattle.prodash_base.specs.Rows.{rows_of}
use Rattle.prodash_tui.specs.ProgressPanes.{greatest, tree_line, with_lines, with_tree_row}
use Rattle.prodash_tui.specs.RowTexts.{tree_row_columns}
use Rattle.prodash_tui.proofs.draw.progress.tree.draw_tree.Given as goal

abbrev pub invariant-loop-line : goal.invariant-loop-line
invariant-loop-line l = record {
  drawn : l.grid ≡ with_lines l.line (λ line g. with_tree_row (rows_of l.rows) (l.offset + line) (tree_line l.area line) g) l.fn.grid;
  columns : l.columns ≡ greatest l.line (λ line. tree_row_columns (rows_of l.rows) (l.offset + line));
}
