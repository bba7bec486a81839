use Rattle.std.proofs.Common.{arith, sym, subst}
use Rattle.prodash_base.specs.plumbing.KeptTables.{IsTakenBack}
use Rattle.prodash_base.specs.declared.throughput.kept.Kept.{Kept}
use Rattle.prodash_base.proofs.KeptBefore.{reached_more}
use Rattle.prodash_base.proofs.throughput.keys.take_back_each.Goals as goal

pub loop-known-preserved : goal.loop-known-preserved
loop-known-preserved c =
    let changed : IsTakenBack c.known-item.result c.take_back.new.self =
    subst (λ (old : Kept). IsTakenBack old c.take_back.new.self) (sym c.known-item.is) (record { key = c.take_back.ensures.key; summary = c.take_back.ensures.summary; before = c.take_back.ensures.before }) in
    reached_more (λ k l. IsTakenBack k l) c.args.kept.now c.loop-known.kept c.loop-known.known-index c.known-item.result c.take_back.new.self
    (omega (arith, c.loop-known-test.true, c.loop-known.auto.kept)) c.known-item.is changed c.loop-known.invariant
