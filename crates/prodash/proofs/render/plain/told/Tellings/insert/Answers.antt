use Rattle.std.proofs.Common.{◌∙◌, ap}
use Rattle.std.specs.FinMap as finite
use Rattle.prodash.proofs.PlainTables.{tellings_of-update}
use Rattle.prodash.proofs.render.plain.told.Tellings.insert.Goals as goal

pub returns-clause-ok : goal.returns-clause-ok
returns-clause-ok c =
    tellings_of-update c.self.inside.tasks.entries c.insert.new.self.entries c.args.key c.args.told c.in_ok-insert.ensures.updates.0
    ∙ ap (λ m. finite.insert m c.args.key c.args.told) c.self.view_is
