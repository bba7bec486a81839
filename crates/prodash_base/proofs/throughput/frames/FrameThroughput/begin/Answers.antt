use Rattle.std.proofs.Common.{rules, ◌≡◌, false, refl, sym, subst}
use Rattle.prodash_base.specs.Trackers.{Observations}
use Rattle.prodash_base.specs.plumbing.KeptTables.{KeepsBoth, summaries_of}
use Rattle.prodash_base.specs.declared.throughput.frames.FrameThroughput.TheInside.{Inside}
use Rattle.prodash_base.proofs.KeptBefore.{both-taken}
use Rattle.prodash_base.proofs.FrameSamples.{held_before, held-taken, held-settled, before-taken}
use Rattle.prodash_base.proofs.throughput.frames.FrameThroughput.begin.Goals as goal
use Rattle.prodash_base.proofs.throughput.frames.FrameThroughput.begin.Goals.{then-self, else-self}

abbrev Holds : Inside → Type 0
Holds t = KeepsBoth t.history_before.observations t.history.observations t.is_pending t.kept.items

pub invariant_of-self : goal.invariant_of-self
invariant_of-self c = elim c.if-self.branch [
  | then-self w ↦ subst Holds (sym w.self-inside-is)
      (subst (λ (m : Observations). KeepsBoth c.self.inside.history_before.observations m false w.take_back_all.new.kept.items) (sym w.after-self-inside.ensures)
      (both-taken c.self.inside.history_before.observations c.self.inside.history.observations c.self.inside.is_pending c.self.inside.kept.items w.take_back_all.new.kept.items
      c.self.invariant w.take_back_all.ensures))
  | else-self w ↦ subst Holds (sym w.self-inside-is) c.self.invariant
]

-- what is held is what was kept before
pub returns : goal.returns
returns c =
    let kept = c.self.inside.kept.items in
    let now : summaries_of c.if-self.self-inside.kept.items ≡ held_before kept =
    elim c.if-self.branch [
      | then-self w ↦ subst (λ (t : Inside). summaries_of t.kept.items ≡ held_before kept) (sym w.self-inside-is) (held-taken kept w.take_back_all.new.kept.items w.take_back_all.ensures)
      | else-self w ↦ subst (λ (t : Inside). summaries_of t.kept.items ≡ held_before kept) (sym w.self-inside-is)
          (held-settled c.self.inside.history_before.observations c.self.inside.history.observations c.self.inside.is_pending kept c.self.invariant w.if-self.false)
    ] in
    let before : held_before c.if-self.self-inside.kept.items ≡ held_before kept =
    elim c.if-self.branch [
      | then-self w ↦ subst (λ (t : Inside). held_before t.kept.items ≡ held_before kept) (sym w.self-inside-is) (before-taken kept w.take_back_all.new.kept.items w.take_back_all.ensures)
      | else-self w ↦ subst (λ (t : Inside). held_before t.kept.items ≡ held_before kept) (sym w.self-inside-is) refl
    ] in
    search (rules, now, before)
