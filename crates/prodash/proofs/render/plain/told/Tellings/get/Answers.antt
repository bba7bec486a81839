use Rattle.std.proofs.Common.{◌∙◌, sym}
use Rattle.prodash.proofs.PlainTables.{get-tellings_of}
use Rattle.prodash.proofs.render.plain.told.Tellings.get.Goals as goal

pub returns : goal.returns
returns c = rw (← c.self.view_is) (c.get.ensures.value ∙ sym (get-tellings_of c.self.inside.tasks.entries c.args.key))
