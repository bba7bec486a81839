use Rattle.prodash_base.specs.plumbing.KeptTables.{IsKept}
use Rattle.prodash_base.proofs.KeptBefore.{Reached}
use Rattle.prodash_base.proofs.throughput.keys.keep_all.Given as goal

abbrev pub invariant-loop-known : goal.invariant-loop-known
invariant-loop-known l = Reached (λ k l. IsKept k l) l.fn.kept l.kept l.known-index
