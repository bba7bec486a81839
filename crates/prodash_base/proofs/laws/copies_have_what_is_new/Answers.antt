use Rattle.prodash_base.proofs.RingLaws.{messages_since-drop}
use Rattle.prodash_base.proofs.laws.copies_have_what_is_new.Goals as goal

pub returns : goal.returns
returns c = messages_since-drop
