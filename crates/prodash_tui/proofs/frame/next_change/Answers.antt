use Rattle.std.proofs.Common.{◌+◌, ◌<◌, length, refl, sym, ◌∙◌, arith}
use Rattle.prodash_tui.proofs.SpelledSigns.{same_left}
use Rattle.prodash_tui.proofs.frame.next_change.Goals as goal

pub loop-k-2-preserved : goal.loop-k-2-preserved
loop-k-2-preserved c =
    let old = c.args.old.now in
    let new = c.args.new.now in
    let k = c.loop-k-2.k in
    let a = c.index-old-k.result in
    let b = c.index-new-k.result in
    let inside : k < length old = omega arith in
    let within : k < length new = omega arith in
    record {
      behind = omega arith;
      within = omega arith;
      same = c.loop-k-2.invariant.same ∙ same_left k (k + 1) a b old new inside within (sym c.index-old-k.is) (sym c.index-new-k.is) (sym c.if-eq.ensures.value) refl;
    }
