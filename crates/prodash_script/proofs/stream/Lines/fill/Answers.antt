use Rattle.std.proofs.Common.{arith}
use Rattle.prodash_script.proofs.LinesRead.{brings, nothing_waits}
use Rattle.prodash_script.proofs.stream.Lines.fill.Goals as goal

pub returns-in-Ok : goal.returns-in-Ok
returns-in-Ok g c =
    let s = c.self.inside in
    let none = nothing_waits s.chunk s.at s.end c.if-self.false in
    rw (← c.self.view_is) (brings _ _ c.read.new.buf _ c.in-Ok.count none (omega (arith, c.self.told, c.read.auto.buf)) c.in-Ok.ensures.bytes.0 c.in-Ok.ensures.bytes.1)
