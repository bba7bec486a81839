use Rattle.std.proofs.Common.{subst}
use Rattle.std.specs.Prelude.{IfOk, string_bytes}
use Rattle.std.specs.Option.{option_map}
use Rattle.prodash_core.proofs.traits.boxed.BoxedProgressProgress.name.Goals as goal

pub returns-clause-ok : goal.returns-clause-ok
returns-clause-ok g c =
    subst (λ d. IfOk c.name.result (λ name. (goal.Progress-dyn g d).Progress.has_name d.1 (option_map (λ text. string_bytes text) name)))
    c.deref_box-1.ensures.1 c.name.ensures.0
