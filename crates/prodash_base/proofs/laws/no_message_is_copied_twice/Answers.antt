use Rattle.prodash_base.proofs.RingLaws.{messages_since-append}
use Rattle.prodash_base.proofs.laws.no_message_is_copied_twice.Goals as goal

pub returns : goal.returns
returns c = messages_since-append
