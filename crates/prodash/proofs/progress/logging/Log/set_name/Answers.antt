use Rattle.std.proofs.Common.{ap}
use Rattle.prodash.specs.Logs.{LogState, joined}
use Rattle.prodash.proofs.progress.logging.Log.set_name.Goals as goal

pub returns-clause-ok : goal.returns-clause-ok
returns-clause-ok g c =
    let first = c.first_part-first.result.now in (
      first,
      rw (← ap (λ (s : LogState). s.name) c.self.view_is, ← c.as_str.ensures) c.first_part-first.ensures,
      rw c.in_ok-self-inside.ensures.ok (ap (λ (s : LogState). record s { name = joined first c.args.name.now }) c.self.view_is),
    )
