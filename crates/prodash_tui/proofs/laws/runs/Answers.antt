use Rattle.prodash_tui.proofs.ShownRuns.{shows_each_frame, shows_main_again}
use Rattle.prodash_tui.proofs.laws.runs.Goals as goal

pub returns-clause-frames : goal.returns-clause-frames
returns-clause-frames c = shows_each_frame

pub returns-clause-end : goal.returns-clause-end
returns-clause-end c = shows_main_again
