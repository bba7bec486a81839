-- They own nothing, so they may go to any thread.
use denote.Param.Send.{IsSend}
use Rattle.prodash_line.specs.contracts.render.line.draw.over_write.calls.Calls.{the_row}

pub send : IsSend the_row
send = record { owned = λ d vs. ((λ vss. (tt, tt)), tt); leaving = λ k f vs. tt }
