use Rattle.prodash.specs.plumbing.CountedTurns.{BeginsTurn}
use Rattle.prodash.proofs.tree.turns.TurnsCountsTurns.begin.Goals as goal

pub returns : goal.returns
unfolding BeginsTurn
returns g c = λ taken took. (took, c.begin_turn-tree.ensures)
