use Rattle.std.proofs.Common.{◌≡◌, ◌∙◌, arith, pos}
use Rattle.jiff_core.specs.DateTime.{civil_nanos}
use Rattle.jiff_core.proofs.SignedLemmas.{signed_arith}
use Rattle.prodash_base.proofs.DayNumbers.{day_is}
use Rattle.prodash_base.proofs.time.date_of.Goals as goal

pub returns : goal.returns
returns c =
    let moment : civil_nanos c.from_nanosecond_in_range.result ≡ pos c.args.at = c.from_nanosecond_in_range.ensures ∙ omega (arith, signed_arith, c.from.ensures) in
    day_is c.from_nanosecond_in_range.result c.args.at moment
