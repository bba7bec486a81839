use Rattle.prodash.proofs.PlainTables.{tellings_of-remove}
use Rattle.prodash.proofs.render.plain.told.Tellings.remove.Goals as goal

pub returns : goal.returns
returns c = rw (← c.self.view_is) (tellings_of-remove c.self.inside.tasks.entries c.remove.new.self.entries c.args.key c.remove.ensures.updates.0)
