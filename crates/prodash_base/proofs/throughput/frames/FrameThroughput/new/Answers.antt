use Rattle.std.proofs.Common.{false, List, sym, subst}
use Rattle.std.specs.FinMap as finite
use Rattle.prodash_base.specs.Trackers.{Observations}
use Rattle.prodash_base.specs.plumbing.KeptTables.{KeepsBoth}
use Rattle.prodash_base.specs.declared.throughput.kept.Kept.{Kept}
use Rattle.prodash_base.proofs.KeptBefore.{both-none}
use Rattle.prodash_base.proofs.throughput.frames.FrameThroughput.new.Goals as goal

pub invariant_of-result : goal.invariant_of-result
invariant_of-result c =
    subst (λ (m : Observations). KeepsBoth m c.new-3.result.observations false c.new.result.items) (sym c.new-2.ensures)
    (subst (λ (m : Observations). KeepsBoth finite.empty m false c.new.result.items) (sym c.new-3.ensures)
    (subst (λ (kept : List Kept). KeepsBoth finite.empty finite.empty false kept) (sym c.new.ensures.items) both-none))
