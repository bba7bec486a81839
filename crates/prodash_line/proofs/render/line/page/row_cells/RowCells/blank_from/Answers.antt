use Rattle.std.proofs.Common.{◌≡◌, ◌-◌, ◌<◌, List, ◌++◌, set, length, take, drop, ap, ◌∙◌, rules, vec_len, arith}
use Rattle.prodash_line.specs.CellRows.{blank_cell, blank_cells, torn}
use Rattle.prodash_line.specs.declared.render.line.page.cell.Cell.{Cell}
use Rattle.prodash_line.proofs.ErasedRows.{erase_next}
use Rattle.prodash_line.proofs.render.line.page.row_cells.RowCells.blank_from.Goals as goal

pub loop-k-preserved : goal.loop-k-preserved
loop-k-preserved c =
    let column = c.args.column in
    let cells = torn column c.args.self.now in
    let k = c.loop-k.k in
    let same : c.self.inside.cells.items ≡ cells = search rules in
    let size = ap length same in
    let len : vec_len c.self.inside.cells ≡ length c.self.inside.cells.items = search rules in
    let below : k < length cells = omega arith in
    ap (λ (cs : List Cell). set cs k c.cell_of.result) c.loop-k.invariant
    ∙ ap (λ (cell : Cell). set (take column cells ++ (blank_cells (k - column) ++ drop k cells)) k cell) c.cell_of.ensures
    ∙ erase_next column k cells blank_cell (search rules) below
