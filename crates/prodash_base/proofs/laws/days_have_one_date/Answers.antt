use Rattle.prodash_base.proofs.CalendarLaws.{one_date}
use Rattle.prodash_base.proofs.laws.days_have_one_date.Goals as goal

pub returns : goal.returns
returns c = one_date
