use Rattle.std.proofs.Common.{◌≡◌, ◌<◌, List, ◌++◌, set, length, drop, ap, ◌∙◌, append-nil, arith, rules}
use Rattle.std.proofs.lemmas.List.{drop_all}
use Rattle.prodash_tui.specs.declared.cell.Cell.{Cell}
use Rattle.prodash_tui.specs.Cells.{blank_cell, blank_cells}
use Rattle.prodash_tui.proofs.SplicedRows.{blank_next}
use Rattle.prodash_tui.proofs.row.clear_cells.Goals as goal

pub loop-k-preserved : goal.loop-k-preserved
loop-k-preserved c =
    let k = c.loop-k.k in
    let cells = c.args.cells.now in
    let inside : k < length cells = search rules in
    ap (λ (cs : List Cell). set cs k c.blank_cell.result) c.loop-k.invariant
    ∙ ap (λ (cell : Cell). set (blank_cells k ++ drop k cells) k cell) c.blank_cell.ensures
    ∙ blank_next k cells blank_cell inside

pub returns : goal.returns
returns c =
    let k = c.loop-k.k in
    let cells = c.args.cells.now in
    let all : k ≡ length cells = search rules in
    c.loop-k.invariant ∙ ap (λ (cs : List Cell). blank_cells k ++ cs) (drop_all k cells (omega arith)) ∙ append-nil (blank_cells k) ∙ ap blank_cells all
