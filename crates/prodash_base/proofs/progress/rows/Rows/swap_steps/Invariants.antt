use Rattle.std.proofs.Common.{◌≡◌, length}
use Rattle.prodash_base.specs.Rows.{rows_of}
use Rattle.prodash_base.proofs.SteppedRows.{Swapped}
use Rattle.prodash_base.proofs.progress.rows.Rows.swap_steps.Given as goal

abbrev pub invariant-loop-n : goal.invariant-loop-n
invariant-loop-n l = record {
  long : length l.self-inside.rows.items ≡ length l.initial.self-inside.rows.items;
  swapped : Swapped l.fn.steps (rows_of l.initial.self-inside.rows.items) l.steps (rows_of l.self-inside.rows.items) l.n;
}
