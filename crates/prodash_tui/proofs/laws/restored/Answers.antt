use Rattle.prodash_tui.proofs.ShownScreens.{restores, restores_frames}
use Rattle.prodash_tui.proofs.laws.restored.Goals as goal

pub returns-clause-signs : goal.returns-clause-signs
returns-clause-signs c = restores

pub returns-clause-frames : goal.returns-clause-frames
returns-clause-frames c = restores_frames
