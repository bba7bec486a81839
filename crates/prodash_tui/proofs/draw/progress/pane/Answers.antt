use Rattle.std.proofs.Common.{◌≡◌, sym, ◌∙◌}
use Rattle.prodash_base.specs.Rows.{rows_of}
use Rattle.prodash_tui.specs.Offsets.{sanitize_offset}
use Rattle.prodash_tui.specs.ProgressPanes.{lines_behind, rows_area, rows_offset, tree_width, with_hidden, with_rows, with_tree_on}
use Rattle.prodash_tui.specs.plumbing.Spinners.{lines_for}
use Rattle.prodash_tui.proofs.PaneRows.{length_rows}
use Rattle.prodash_tui.proofs.SpinnerLines.{rows_as_behind}
use Rattle.prodash_tui.proofs.draw.progress.pane.Goals as goal

pub returns-clause-drawn : goal.returns-clause-drawn
returns-clause-drawn c =
    let rows = rows_of c.args.tasks.now.rows.now in
    let rates = c.args.tasks.now.rates.now in
    let area = c.args.area in
    let scroll = c.args.scroll in
    let shown : c.rows_area-shown.result ≡ rows_area rows area = c.rows_area-shown.ensures in
    let offset : c.sanitize_offset-offset.result ≡ rows_offset rows area scroll.offset =
    c.sanitize_offset-offset.ensures ∙ (λ i. sanitize_offset scroll.offset (sym (length_rows c.args.tasks.now.rows.now) i) (shown i).height) in
    let tree : c.tree_width-tree.result ≡ tree_width area scroll.tree_columns = c.tree_width-tree.ensures in
    let left : c.draw_tree_on.new.grid ≡ with_tree_on (tree_width area scroll.tree_columns) rows (rows_area rows area) (rows_offset rows area scroll.offset) c.args.grid.now =
    c.in_ok-tree_columns.ensures.drawn ∙ (λ i. with_tree_on (tree i) rows (shown i) (offset i) c.args.grid.now) in
    let lines : c.in_ok-lines.lines ≡ lines_for (tree_width area scroll.tree_columns) rows (rows_area rows area) (rows_offset rows area scroll.offset) c.args.tasks.now.at =
    c.in_ok-lines.ensures.ok ∙ (λ i. lines_for (tree i) rows (shown i) (offset i) c.args.tasks.now.at) in
    let drawn : c.draw_rows.new.grid
    ≡ with_rows rows rates (lines_behind (tree_width area scroll.tree_columns) rows (rows_area rows area) (rows_offset rows area scroll.offset) c.args.tasks.now.at)
    (with_tree_on (tree_width area scroll.tree_columns) rows (rows_area rows area) (rows_offset rows area scroll.offset) c.args.grid.now) =
    c.in_ok-draw_rows.ensures.drawn
    ∙ (λ i. with_rows rows rates (lines i) (left i))
    ∙ rows_as_behind (tree_width area scroll.tree_columns) rows rates (rows_area rows area) (rows_offset rows area scroll.offset) c.args.tasks.now.at
    (with_tree_on (tree_width area scroll.tree_columns) rows (rows_area rows area) (rows_offset rows area scroll.offset) c.args.grid.now) in
    c.in_ok-draw_hidden_line.ensures.drawn ∙ (λ i. with_hidden rows (offset i) (tree i) area (drawn i))
