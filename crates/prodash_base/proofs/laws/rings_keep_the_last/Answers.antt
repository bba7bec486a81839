use Rattle.prodash_base.proofs.RingLaws.{fold-push}
use Rattle.prodash_base.proofs.laws.rings_keep_the_last.Goals as goal

pub returns-clause-all : goal.returns-clause-all
returns-clause-all c = fold-push
