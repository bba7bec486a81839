use Rattle.std.proofs.Common.{◌≡◌, ◌-◌, length, slice_index_or, ap, ◌∙◌, arith}
use Rattle.prodash_base.proofs.Marks.{earliest_last}
use Rattle.prodash_base.proofs.timing.marks.earliest_mark.Goals as goal

pub returns : goal.returns
returns c = λ d.
    let last : 15 ≡ length c.args.marks.now - 1 = omega (arith, c.told-marks) in
    ap (λ n. slice_index_or c.args.marks.now n (record { at = 0; step = 0 })) last ∙ earliest_last c.args.marks.now _ d (omega (arith, c.told-marks))
