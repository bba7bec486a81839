use Rattle.std.proofs.Common.{◌≡◌, ℕ, ◌+◌, ◌<◌, None, length, sym, ap, ◌∙◌, arith}
use Rattle.std.proofs.lemmas.Result.{on_ok_weaker}
use Rattle.std.specs.Option.{option_map}
use Rattle.prodash_base.specs.Rows.{PathRow, progress_of, row_of, rows_of}
use Rattle.prodash_tui.specs.ProgressPanes.{behind_branches, rule_columns, with_branches, with_group}
use Rattle.prodash_tui.specs.Rects.{line_bound}
use Rattle.prodash_tui.specs.RowTexts.{has_child, row_at}
use Rattle.prodash_tui.proofs.PaneRows.{group_row, said_by}
use Rattle.prodash_tui.proofs.draw.progress.row.draw_row.Goals as goal

pub returns-in-None-clause-drawn : goal.returns-in-None-clause-drawn
returns-in-None-clause-drawn c =
    let all = c.args.rows.now in
    let rows = rows_of all in
    let lines = c.args.lines.now in
    let line = c.args.line in
    let at = lines.offset + line in
    let index : c.from.result + c.from-2.result ≡ at = omega arith in
    let bound : c.line_bound-bound.result ≡ line_bound lines.area line = c.line_bound-bound.ensures ∙ ap (λ (n : ℕ). line_bound lines.area n) (let e : c.from-3.result ≡ line = omega arith in e) in
    let inside : c.from.result + c.from-2.result < length all = omega arith in
    let said : row_at rows (c.from.result + c.from-2.result) ≡ row_of c.index-rows-index.result = said_by all (c.from.result + c.from-2.result) c.index-rows-index.result inside c.index-rows-index.is in
    let here : row_at rows at ≡ row_of c.index-rows-index.result = ap (λ (n : ℕ). row_at rows n) (sym index) ∙ said in
    let name : c.as_str-in-None.result.now ≡ (row_at rows at).1.name = c.as_str-in-None.ensures ∙ ap (λ (r : PathRow). r.1.name) (sym here) in
    let none : (row_at rows at).1.progress ≡ None = ap (λ (r : PathRow). r.1.progress) here ∙ ap (option_map progress_of) c.in-None.is in
    let columns : c.rule_columns-columns.result ≡ rule_columns (has_child rows at) lines.area.width =
    c.rule_columns-columns.ensures ∙ ap (λ b. rule_columns b lines.area.width) (c.has_child.ensures ∙ ap (λ (n : ℕ). has_child rows n) index) in
    let behind : c.in_ok-behind.behind ≡ behind_branches rows at (line_bound lines.area line) = c.in_ok-behind.ensures.behind ∙ (λ i. behind_branches rows (index i) (bound i)) in
    let before : c.draw_branches.new.grid ≡ with_branches rows at (line_bound lines.area line) c.args.grid.now = c.in_ok-behind.ensures.drawn ∙ (λ i. with_branches rows (index i) (bound i) c.args.grid.now) in
    on_ok_weaker c.draw_group.result
    (λ h. h ∙ (λ i. with_group (name i) (columns i) (behind i) (before i)) ∙ sym (group_row rows c.args.rates.now lines line c.args.grid.now none))
    c.draw_group.ensures.drawn
