use Rattle.std.proofs.Common.{◌∙◌}
use Rattle.std.proofs.lemmas.Iterator.Adapters.{YieldsList-from_skip}
use Rattle.std.proofs.lemmas.Iterator.Consumers.{YieldsList-from_rest, YieldsList-end}
use Rattle.prodash_base.proofs.messages.ring.copies.Goals as goal

pub returns : goal.returns
returns c =
    let rest = YieldsList-from_skip c.args.skipped (YieldsList-from_rest c.args.ring.now.items cc) cc in
    let all = YieldsList-end rest c.loop-message.yielded _ c.loop-message.yielded_by _ _ c.in-None.is c.next.ensures.steps in
    c.truncate.ensures.items ∙ c.loop-message.invariant.1 ∙ all.0
