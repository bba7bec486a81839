use Rattle.std.proofs.Common.{◌≡◌, ◌-◌, ◌<◌, true, List, ◌++◌, length, set, drop, sym, ap, ◌∙◌, rules, arith}
use Rattle.std.proofs.lemmas.List.{get_or_read}
use Rattle.prodash_tui.specs.declared.cell.Cell.{Cell}
use Rattle.prodash_tui.specs.Cells.{blank_cell, cell_at, is_half}
use Rattle.prodash_tui.specs.Rows.{front}
use Rattle.prodash_tui.proofs.SplicedRows.{front_torn}
use Rattle.prodash_tui.proofs.row.Row.heal_before.Goals as goal

pub returns-then-is_half : goal.returns-then-is_half
returns-then-is_half c =
    let x = c.args.x in
    let cells = c.self.inside.cells.items in
    let inside : x < length cells = search rules in
    let half : is_half (cell_at cells x) ≡ true =
    ap is_half (sym (get_or_read cells x c.index.result.now inside (search rules) blank_cell)) ∙ sym c.is_half.ensures ∙ c.if-is_half.true in
    ap (λ (cell : Cell). set cells (x - 1) cell) c.blank_cell.ensures
    ∙ front_torn cells x (omega arith) (omega arith) half
    ∙ ap (λ (cs : List Cell). front x cs ++ drop x cs) c.self.view_is
