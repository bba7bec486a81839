use Rattle.std.proofs.Common.{◌≡◌, true, rules, ap, ◌∙◌}
use Rattle.std.proofs.lemmas.Result.{on_ok_weaker}
use Rattle.prodash_base.specs.Rows.{rows_of}
use Rattle.prodash_tui.specs.ProgressPanes.{overflows, rows_area, with_hidden, with_overflow}
use Rattle.prodash_tui.proofs.PaneRows.{hidden_line}
use Rattle.prodash_tui.proofs.draw.progress.draw_hidden_line.Goals as goal

pub returns-clause-drawn : goal.returns-clause-drawn
returns-clause-drawn c =
    let rows = rows_of c.args.rows.now in
    let grid = c.args.grid.now in
    let area = c.args.area in
    let offset = c.args.offset in
    let tree = c.args.tree in
    let fact = c.if-not-overflows.false in
    let are : true ≡ overflows rows area = search rules in
    let height : c.rows_area-shown.result.height ≡ (rows_area rows area).height = ap (λ r. r.height) c.rows_area-shown.ensures in
    let same : with_overflow rows offset c.rows_area-shown.result.height tree c.bottom_of.result grid ≡ with_hidden rows offset tree area grid =
    (λ i. with_overflow rows offset (height i) tree (c.bottom_of.ensures i) grid) ∙ hidden_line rows offset tree area grid are in
    on_ok_weaker {P = c.draw_hidden.new.grid ≡ with_overflow rows offset c.rows_area-shown.result.height tree c.bottom_of.result grid} {Q = c.draw_hidden.new.grid ≡ with_hidden rows offset tree area grid} c.draw_hidden.result (λ h. h ∙ same) c.draw_hidden.ensures.drawn
