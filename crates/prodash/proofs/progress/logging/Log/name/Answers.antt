use Rattle.std.proofs.Common.{ap}
use Rattle.prodash.specs.Logs.{LogState}
use Rattle.prodash.proofs.progress.logging.Log.name.Goals as goal

pub returns-in_ok-from_str-in-Some-clause-ok : goal.returns-in_ok-from_str-in-Some-clause-ok
returns-in_ok-from_str-in-Some-clause-ok g c =
    rw (c.in_ok-from_str-in-Some.ensures.ok, ← ap (λ (s : LogState). s.name) c.self.view_is, ← c.as_str.ensures) c.in-Some.ensures
