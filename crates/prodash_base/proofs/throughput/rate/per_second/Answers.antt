use Rattle.std.proofs.Common.{arith, ◌*◌, ◌/◌, ap}
use Rattle.prodash_base.proofs.SampleLaws.{scaled_apart}
use Rattle.prodash_base.proofs.throughput.rate.per_second.Goals as goal

pub returns : goal.returns
returns c =
    let all = scaled_apart c.args.change c.args.nanoseconds c.from-second.result (omega arith) in
    let second = ap (λ k. c.args.change * k / c.args.nanoseconds) c.from-second.ensures in
    omega (arith, all, second)
