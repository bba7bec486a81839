use Rattle.std.proofs.Common.{ℕ, sym, ap, ◌∙◌}
use Rattle.prodash_base.specs.Rows.{rows_of}
use Rattle.prodash_tui.specs.Grids.{Sheet}
use Rattle.prodash_tui.specs.ProgressPanes.{with_row}
use Rattle.prodash_tui.proofs.PaneRows.{line_more}
use Rattle.prodash_tui.proofs.draw.progress.row.draw_rows.Goals as goal

pub loop-line-preserved : goal.loop-line-preserved
loop-line-preserved c =
    let line = c.loop-line.line in
    let draw : ℕ → Sheet → Sheet = λ line g. with_row (rows_of c.args.rows.now) c.args.rates.now c.args.lines.now line g in
    c.in_ok-draw_row.ensures.drawn ∙ ap (draw line) c.loop-line.invariant ∙ sym (line_more line draw c.args.grid.now)
