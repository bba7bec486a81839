use Rattle.prodash_base.specs.Samples.{one_second}
use Rattle.prodash_base.proofs.SampleLaws.{latest_over-shortest}
use Rattle.prodash_base.proofs.laws.rates_are_over_the_latest_second.Goals as goal

pub returns : goal.returns
returns c = latest_over-shortest one_second
