-- They own nothing, so any thread may share them.
use denote.Param.Send.{IsSync, part_keyless}
use Rattle.prodash_line.specs.contracts.render.line.draw.over_write.calls.Calls.{the_row}
use Rattle.prodash_line.proofs.render.line.draw.over_write.calls.Calls.TheSendSync.Send.{send}

pub sync : IsSync the_row
sync = record { shared = λ d b o κ q. part_keyless the_row send q d b o }
