use Rattle.std.proofs.Common.{◌≡◌, ℕ, ◌-◌, ◌<◌, List, length, get_or, ap, ◌∙◌, rules, arith}
use Rattle.std.specs.Prelude.{min}
use Rattle.prodash_tui.specs.declared.cell.Cell.{Cell}
use Rattle.prodash_tui.specs.Grids.{Sheet, with_text}
use Rattle.prodash_tui.specs.Texts.{text_cut}
use Rattle.prodash_tui.proofs.TextRows.{row_written}
use Rattle.prodash_tui.proofs.grid.Grid.draw_text.Goals as goal

pub returns : goal.returns
returns c =
    let area = c.args.area in
    let style = c.args.style in
    let text = c.args.text.now in
    let width = c.self.inside.width in
    let rows = c.self.inside.rows.items in
    let old = c.index_mut-row.result.now in
    let room : c.from-3.result - c.from-2.result ≡ min area.width (width - area.x) = omega arith in
    let inside : area.y < length rows = omega (arith, c.self.invariant.high) in
    let value : old ≡ get_or rows c.from.result old = search rules in
    ap (λ (rs : List (List Cell)). let g : Sheet = record { width = width; height = c.self.inside.height; rows = rs } in g)
    (row_written (λ (n : ℕ). text_cut style n text) area width rows c.from.result c.from-2.result (c.from-3.result - c.from-2.result) old c.draw_text.new.self
    (omega arith) (omega arith) room (omega arith) inside value c.draw_text.ensures.cells)
    ∙ ap (with_text area style text) c.self.view_is
