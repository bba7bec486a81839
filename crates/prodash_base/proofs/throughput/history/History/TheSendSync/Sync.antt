-- A history owns nothing, so any thread may share it.
use denote.Param.Send.{IsSync, part_keyless}
use Rattle.prodash_base.specs.contracts.throughput.history.History.{the_row}
use Rattle.prodash_base.proofs.throughput.history.History.TheSendSync.Send.{send}

pub sync : IsSync the_row
sync = record { shared = λ d b o κ q. part_keyless the_row send q d b o }
