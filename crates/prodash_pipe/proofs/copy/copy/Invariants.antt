use Rattle.prodash_pipe.proofs.Copying.{HasCopied}
use Rattle.prodash_pipe.proofs.copy.copy.Given as goal

abbrev pub invariant-loop : goal.invariant-loop
invariant-loop g l =
    HasCopied (g.R.Read.remaining l.fn.input) (g.R.Read.remaining l.input) (g.W.Write.contents l.fn.out) (g.W.Write.contents l.out) l.fn.meter l.meter
