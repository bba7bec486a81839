use Rattle.std.proofs.Common.{◌≡◌, ◌+◌, vec_len}
use Rattle.prodash.proofs.tree.spare_rows.push_blank_rows.Given as goal

abbrev pub invariant-loop : goal.invariant-loop
invariant-loop l = vec_len l.rows ≡ vec_len l.fn.rows + l.counter
