use Rattle.prodash_tui.proofs.RowDifferences.{redrawn_row}
use Rattle.prodash_tui.proofs.laws.redrawn.Goals as goal

pub returns : goal.returns
returns c = λ same sound columns old new. redrawn_row columns same old new sound
