use Rattle.std.proofs.Common.{◌≡◌, ◌+◌, ◌-◌, ◌++◌, length, take, drop, ap, ◌∙◌, length-append, arith}
use Rattle.std.proofs.lemmas.List.{length-drop, length-replicate, length-take-le}
use Rattle.prodash_tui.specs.Cells.{blank_cell, blank_cells}
use Rattle.prodash_tui.proofs.BlankParts.{ends_blanked}
use Rattle.prodash_tui.proofs.row.clear_outside.Goals as goal

pub returns : goal.returns
returns c =
    let first = c.args.first in
    let last = c.args.last in
    let old = c.args.cells.now in
    let head = c.clear_cells.new.cells in
    let some : length (take first old) ≡ first = length-take-le first old (omega arith) in
    let blanked : head ≡ blank_cells first = c.clear_cells.ensures ∙ ap blank_cells some in
    let row = head ++ drop first old in
    let size : length head ≡ first = ap length blanked ∙ length-replicate first blank_cell in
    let width : length row ≡ length head + length (drop first old) = length-append head (drop first old) in
    let rest : length (take (length row - last) (drop last row)) ≡ length old - last =
    length-take-le (length row - last) (drop last row) (omega (arith, length-drop last row)) ∙ (let e : length row - last ≡ length old - last = omega (arith, length-drop first old) in e) in
    ends_blanked first last old head c.clear_cells-2.new.cells c.requires.order c.requires.last blanked (c.clear_cells-2.ensures ∙ ap blank_cells rest)
