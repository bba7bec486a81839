use Rattle.prodash_pipe.proofs.Copying.{HasPassed}
use Rattle.prodash_pipe.proofs.copy.pass.Given as goal

abbrev pub invariant-loop : goal.invariant-loop
invariant-loop g l = HasPassed l.fn.block l.rest (g.W.Write.contents l.fn.out) (g.W.Write.contents l.out) l.fn.meter l.meter
