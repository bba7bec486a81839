use Rattle.prodash_base.specs.plumbing.KeptTables.{IsTakenBack}
use Rattle.prodash_base.proofs.KeptBefore.{Reached}
use Rattle.prodash_base.proofs.throughput.keys.take_back_each.Given as goal

abbrev pub invariant-loop-known : goal.invariant-loop-known
invariant-loop-known l = Reached (λ k l. IsTakenBack k l) l.fn.kept l.kept l.known-index
