use Rattle.prodash.specs.plumbing.CountedTurns.{EndsTurn, WereTaken}
use Rattle.prodash.proofs.tree.turns.TurnsCountsTurns.end.Goals as goal

pub returns : goal.returns
unfolding EndsTurn WereTaken
returns g c = λ taken found has. ((_, has.1, c.end_turn.ensures), has.0)
