use Rattle.std.proofs.Common.{◌≡◌, ℕ, suc, ◌+◌, ◌-◌, ◌++◌, ap, sym, ◌∙◌, arith}
use Rattle.prodash_line.specs.Signs.{spelling}
use Rattle.prodash_line.specs.Frames.{erased_rows}
use Rattle.prodash_line.proofs.OverwriteBytes.{erased_more}
use Rattle.prodash_line.proofs.render.line.draw.erasing.erase_rows.Goals as goal

pub loop-preserved : goal.loop-preserved
loop-preserved c =
    let left = c.args.count - (c.loop.counter + 1) in
    let one : c.args.count - c.loop.counter ≡ suc left = omega arith in
    erased_more left c.loop.out.bytes _ _ _ c.in_ok-push_sign.ensures c.in_ok-push_sign-2.ensures
    (ap (λ (n : ℕ). c.loop.out.bytes ++ spelling (erased_rows n)) (sym one) ∙ c.loop.invariant)
