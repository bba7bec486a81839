use Rattle.std.proofs.Common.{rules, sym, subst}
use Rattle.prodash_base.specs.Trackers.{Observations}
use Rattle.prodash_base.specs.plumbing.KeptTables.{KeepsBoth}
use Rattle.prodash_base.proofs.KeptBefore.{both-cloned}
use Rattle.prodash_base.proofs.FrameSamples.{held-cloned, before-cloned}
use Rattle.prodash_base.proofs.throughput.frames.FrameThroughput.copy.Goals as goal

pub invariant_of-result : goal.invariant_of-result
invariant_of-result c =
    let inside = c.self.inside in
    let copied = c.in_ok-clone.field-0.items in
    subst (λ (m : Observations). KeepsBoth m c.after-2.result.observations inside.is_pending copied) (sym c.after.ensures)
    (subst (λ (m : Observations). KeepsBoth inside.history_before.observations m inside.is_pending copied) (sym c.after-2.ensures)
    (both-cloned inside.history_before.observations inside.history.observations inside.is_pending inside.kept.items copied c.self.invariant c.in_ok-clone.ensures.cases.0))

pub returns-clause-ok : goal.returns-clause-ok
returns-clause-ok c =
    let kept = c.self.inside.kept.items in
    let copied = c.in_ok-clone.field-0.items in
    let now = held-cloned kept copied c.in_ok-clone.ensures.cases.0 in
    let before = before-cloned kept copied c.in_ok-clone.ensures.cases.0 in
    search (rules, now, before)
