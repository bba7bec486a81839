use Rattle.std.proofs.Common.{arith, sym, subst}
use Rattle.prodash_base.specs.plumbing.KeptTables.{IsKept}
use Rattle.prodash_base.specs.declared.throughput.kept.Kept.{Kept}
use Rattle.prodash_base.proofs.KeptBefore.{reached_more}
use Rattle.prodash_base.proofs.throughput.keys.keep_all.Goals as goal

pub loop-known-preserved : goal.loop-known-preserved
loop-known-preserved c =
    let changed : IsKept c.known-item.result c.keep.new.self =
    subst (λ (old : Kept). IsKept old c.keep.new.self) (sym c.known-item.is) (record { key = c.keep.ensures.key; summary = c.keep.ensures.summary; before = c.keep.ensures.before }) in
    reached_more (λ k l. IsKept k l) c.args.kept.now c.loop-known.kept c.loop-known.known-index c.known-item.result c.keep.new.self
    (omega (arith, c.loop-known-test.true, c.loop-known.auto.kept)) c.known-item.is changed c.loop-known.invariant
