use Rattle.std.proofs.Common.{rules, ◌∙◌, ap, false, List, sym, subst}
use Rattle.std.specs.List.{AllZip}
use Rattle.prodash_base.specs.Rows.{rows_of}
use Rattle.prodash_base.specs.Trackers.{Observations, is_listed}
use Rattle.prodash_base.specs.plumbing.KeptTables.{KeepsBoth, IsKept, summaries_of}
use Rattle.prodash_base.specs.declared.throughput.kept.Kept.{Kept}
use Rattle.prodash_base.proofs.KeptBefore.{all_written, keeps-retain, both-kept}
use Rattle.prodash_base.proofs.FrameSamples.{held_before, held-kept, before-kept}
use Rattle.prodash_base.proofs.throughput.frames.FrameThroughput.keep.Goals as goal

pub invariant_of-self : goal.invariant_of-self
invariant_of-self c =
    let listed = is_listed (rows_of c.args.rows.now) in
    let items = c.retain_listed.new.kept.items in
    let now = c.keep_all.new.kept in
    let all = c.self.inside.history.observations in
    let each = subst (λ (old : List Kept). AllZip (λ k l. IsKept k l) old now) c.deref_mut.ensures.value c.keep_all.ensures in
    let retained = keeps-retain all listed c.self.inside.kept.items items c.self.invariant.pending_kept c.retain_listed.ensures in
    subst (λ (kept : List Kept). KeepsBoth c.after-self-inside.result.observations c.among-self-inside.result.observations false kept)
    (sym (all_written (λ k l. IsKept k l) items c.deref_mut.result.now now c.retain_listed.new.kept.len c.deref_mut.ensures.value c.deref_mut.ensures.len c.keep_all.ensures))
    (subst (λ (m : Observations). KeepsBoth m c.among-self-inside.result.observations false now) (sym c.after-self-inside.ensures)
    (subst (λ (m : Observations). KeepsBoth m m false now) (sym c.among-self-inside.ensures) (both-kept _ items now retained each)))

pub returns : goal.returns
returns c =
    let listed = is_listed (rows_of c.args.rows.now) in
    let kept = c.self.inside.kept.items in
    let items = c.retain_listed.new.kept.items in
    let new = c.keep_all.new.kept in
    let each = subst (λ (old : List Kept). AllZip (λ k l. IsKept k l) old new) c.deref_mut.ensures.value c.keep_all.ensures in
    let written = all_written (λ k l. IsKept k l) items c.deref_mut.result.now new c.retain_listed.new.kept.len c.deref_mut.ensures.value c.deref_mut.ensures.len c.keep_all.ensures in
    let now = ap summaries_of written ∙ held-kept listed kept items new c.retain_listed.ensures each in
    let before = ap held_before written ∙ before-kept listed kept items new c.retain_listed.ensures each in
    search (rules, now, before)
