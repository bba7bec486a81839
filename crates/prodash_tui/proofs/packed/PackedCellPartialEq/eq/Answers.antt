use Rattle.std.proofs.Common.{◌∙◌}
use Rattle.prodash_tui.specs.Cells.{same_cell}
use Rattle.prodash_tui.proofs.PackedCells.{same_codes}
use Rattle.prodash_tui.proofs.packed.PackedCellPartialEq.eq.Goals as goal

pub returns-clause-value : goal.returns-clause-value
returns-clause-value c =
    same_codes c.self.inside.code c.other.inside.code c.self.invariant c.other.invariant ∙ (λ i. same_cell (c.self.view_is i) (c.other.view_is i))
