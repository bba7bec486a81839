use Rattle.std.proofs.Common.{rules}
use Rattle.prodash_base.proofs.StoredSamples.{keeps-cloned, stored-cloned}
use Rattle.prodash_base.proofs.throughput.Throughput.copy.Goals as goal

pub invariant_of-result : goal.invariant_of-result
invariant_of-result c =
    keeps-cloned c.self.inside.history.observations c.after.result.observations c.self.inside.kept.items c.in_ok-clone.field-0.items c.self.invariant c.after.ensures c.in_ok-clone.ensures.cases.0

pub returns-clause-ok : goal.returns-clause-ok
returns-clause-ok c =
    let same = stored-cloned c.self.inside.history.observations c.self.inside.kept.items c.in_ok-clone.field-0.items c.self.invariant c.in_ok-clone.ensures.cases.0 in
    search (rules, same)
