use Rattle.std.proofs.Common.{rules}
use Rattle.prodash.proofs.tree.recorded.kept_calls.KeptCalls.call_item.Goals as goal

pub returns-clause-ok : goal.returns-clause-ok
returns-clause-ok g c = (c.in_ok-reply.receipt.number, search rules)
