use Rattle.std.proofs.Common.{◌≡◌, take}
use Rattle.prodash_base.specs.Rows.{rows_of}
use Rattle.prodash_base.specs.Steps.{with_steps}
use Rattle.prodash_base.proofs.progress.rows.Rows.have_steps.Given as goal

abbrev pub invariant-loop-n : goal.invariant-loop-n
invariant-loop-n l = with_steps (take l.n l.steps) (rows_of l.self-inside.rows.items) ≡ rows_of l.self-inside.rows.items
