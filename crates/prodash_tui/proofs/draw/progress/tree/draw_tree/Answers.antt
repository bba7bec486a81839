use Rattle.std.proofs.Common.{◌≡◌, ℕ, ◌+◌, sym, ap, ◌∙◌, arith}
use Rattle.std.specs.Prelude.{max}
use Rattle.prodash_base.specs.Rows.{rows_of}
use Rattle.prodash_core.specs.declared.render.tui.event.Rect.{Rect}
use Rattle.prodash_tui.specs.Grids.{Sheet}
use Rattle.prodash_tui.specs.ProgressPanes.{greatest, tree_line, with_tree_row}
use Rattle.prodash_tui.specs.RowTexts.{tree_row_columns}
use Rattle.prodash_tui.proofs.PaneRows.{greatest_more, line_more}
use Rattle.prodash_tui.proofs.draw.progress.tree.draw_tree.Goals as goal

pub loop-line-preserved : goal.loop-line-preserved
loop-line-preserved c =
    let rows = rows_of c.args.rows.now in
    let area = c.args.area in
    let offset = c.args.offset in
    let line = c.loop-line.line in
    let draw : ℕ → Sheet → Sheet = λ line g. with_tree_row rows (offset + line) (tree_line area line) g in
    let numbers : ℕ → ℕ = λ line. tree_row_columns rows (offset + line) in
    let index : c.from.result + c.from-in-loop-line.result ≡ offset + line = omega arith in
    record {
      drawn = c.in_ok-width.ensures.drawn
          ∙ ap (λ (i : ℕ). with_tree_row rows i c.tree_line.result c.loop-line.grid) index
          ∙ ap (λ (r : Rect). with_tree_row rows (offset + line) r c.loop-line.grid) c.tree_line.ensures
          ∙ ap (draw line) c.loop-line.invariant.drawn
          ∙ sym (line_more line draw c.args.grid.now);
      columns =
          let before : c.loop-line.columns ≡ greatest line numbers = c.loop-line.invariant.columns in
          let width : c.in_ok-width.width ≡ numbers line = c.in_ok-width.ensures.columns ∙ ap (λ (i : ℕ). tree_row_columns rows i) index in
          let more : greatest (line + 1) numbers ≡ max (greatest line numbers) (numbers line) = greatest_more line numbers in
          omega (arith, c.max-columns.ensures);
    }
