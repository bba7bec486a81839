use Rattle.prodash_base.proofs.StoredSamples.{keeps-none}
use Rattle.prodash_base.proofs.throughput.Throughput.new.Goals as goal

pub invariant_of-result : goal.invariant_of-result
invariant_of-result c = keeps-none c.new-2.result.observations c.new.result.items c.new-2.ensures c.new.ensures.items
