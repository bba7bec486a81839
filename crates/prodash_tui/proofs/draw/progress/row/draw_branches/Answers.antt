use Rattle.std.proofs.Common.{◌≡◌, ℕ, List, ap, ◌∙◌}
use Rattle.prodash_base.specs.Rows.{rows_of}
use Rattle.prodash_tui.specs.Cells.{plain}
use Rattle.prodash_tui.specs.Grids.{with_shortened}
use Rattle.prodash_tui.specs.RowTexts.{branches_of}
use Rattle.prodash_tui.specs.Panes.{vertical_line}
use Rattle.prodash_tui.proofs.draw.progress.row.draw_branches.Goals as goal

pub returns-clause-drawn : goal.returns-clause-drawn
returns-clause-drawn c =
    let line = c.args.line in
    let below = with_shortened line plain vertical_line c.args.grid.now in
    let text : c.as_str.result.now ≡ branches_of (rows_of c.args.rows.now) c.args.index = c.as_str.ensures.value ∙ c.in_ok-columns.ensures.ok in
    c.draw_on_line.ensures ∙ ap (λ (t : List ℕ). with_shortened line plain t below) text
