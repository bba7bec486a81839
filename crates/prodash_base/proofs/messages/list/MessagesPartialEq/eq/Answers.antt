use Rattle.std.proofs.Common.{rules}
use Rattle.prodash_base.specs.plumbing.EqualityTests.{exact}
use Rattle.prodash_base.specs.plumbing.SameMessages as same
use Rattle.prodash_base.proofs.messages.list.MessagesPartialEq.eq.Goals as goal

pub returns-clause-value : goal.returns-clause-value
returns-clause-value c = search rules

pub returns-clause-exact : goal.returns-clause-exact
returns-clause-exact c = exact same.messages _ c.args.self.now c.args.other.now (returns-clause-value c)
