use Rattle.prodash_tui.proofs.PlayedFrames.{draws_first, draws_next}
use Rattle.prodash_tui.proofs.laws.frames.Goals as goal

pub returns-clause-next : goal.returns-clause-next
returns-clause-next c = draws_next

pub returns-clause-first : goal.returns-clause-first
returns-clause-first c = draws_first
