use Rattle.std.proofs.Common.{arith}
use Rattle.prodash_tui.proofs.laws.shared_cells.Goals as goal

pub returns : goal.returns
returns c = λ a b y x. (
  λ h. (((omega arith, omega arith), omega arith, omega arith), ((omega arith, omega arith), omega arith, omega arith)),
  λ h. ((omega arith, omega arith), omega arith, omega arith),
)
