use Rattle.prodash_tui.proofs.ShownScreens.{draws_entered, draws_frames}
use Rattle.prodash_tui.proofs.laws.drawn.Goals as goal

pub returns-clause-frames : goal.returns-clause-frames
returns-clause-frames c = draws_frames

pub returns-clause-entered : goal.returns-clause-entered
returns-clause-entered c = draws_entered
