-- A history owns nothing, so it may go to any thread.
use denote.Param.Send.{IsSend}
use Rattle.prodash_base.specs.contracts.throughput.history.History.{the_row}

pub send : IsSend the_row
send = record { owned = λ d vs. ((λ vss. (tt, tt)), tt); leaving = λ k f vs. tt }
