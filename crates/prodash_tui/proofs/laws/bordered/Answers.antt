use Rattle.prodash_tui.proofs.BorderCells.{border_outside}
use Rattle.prodash_tui.proofs.laws.bordered.Goals as goal

pub returns : goal.returns
returns c = λ style area g small whole cuts. border_outside area style g small.0 small.1 whole cuts
