use Rattle.std.proofs.Common.{◌≡◌, List, length, ap, ◌∙◌}
use Rattle.std.proofs.lemmas.List.{length-replicate}
use Rattle.prodash_tui.specs.declared.cell.Cell.{Cell}
use Rattle.prodash_tui.specs.Cells.{blank_cell, blank_cells}
use Rattle.prodash_tui.proofs.BlankParts.{blank_outside, blank_row}
use Rattle.prodash_tui.proofs.grid_row.GridRow.clear.Goals as goal

pub invariant_of-self : goal.invariant_of-self
invariant_of-self c =
    let row = c.self.inside.row in
    let blank : c.clear_outside.new.self ≡ blank_cells (length row) = c.clear_outside.ensures ∙ blank_outside c.self.inside.blank row c.self.invariant in
    let size : length c.as_slice.result.now ≡ length row = ap length c.as_slice.ensures ∙ (ap length blank ∙ length-replicate (length row) blank_cell) in
    blank_row (length c.as_slice.result.now) (length row) c.clear_outside.new.self blank size

pub returns : goal.returns
returns c =
    c.clear_outside.ensures ∙ blank_outside c.self.inside.blank c.self.inside.row c.self.invariant ∙ ap (λ (cells : List Cell). blank_cells (length cells)) c.self.view_is
