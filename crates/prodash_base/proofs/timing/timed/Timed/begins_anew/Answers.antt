use Rattle.std.proofs.Common.{rules}
use Rattle.prodash_base.proofs.SameKinds.{same_as_units}
use Rattle.prodash_base.proofs.timing.timed.Timed.begins_anew.Goals as goal

pub returns-then-ne : goal.returns-then-ne
returns-then-ne c = search (rules, same_as_units c.self.inside.unit c.args.value.now.unit, c.ne.ensures)

pub returns-else-ne : goal.returns-else-ne
returns-else-ne c = search (rules, same_as_units c.self.inside.unit c.args.value.now.unit, c.ne.ensures)
