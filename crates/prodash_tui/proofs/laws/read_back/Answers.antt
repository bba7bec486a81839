use Rattle.prodash_tui.proofs.OneSpelling.{one_spelling}
use Rattle.prodash_tui.proofs.ReadableFrames.{frames_are_read_back}
use Rattle.prodash_tui.proofs.ReadableGrids.{dashboards_are_read_back}
use Rattle.prodash_tui.proofs.laws.read_back.Goals as goal

pub returns-clause-one : goal.returns-clause-one
returns-clause-one c = one_spelling

pub returns-clause-frames : goal.returns-clause-frames
returns-clause-frames c = frames_are_read_back

pub returns-clause-dashboards : goal.returns-clause-dashboards
returns-clause-dashboards c = dashboards_are_read_back
