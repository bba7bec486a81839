use Rattle.std.proofs.Common.{◌≤◌, length}
use Rattle.prodash_base.proofs.ListedRows.{AreListed}
use Rattle.prodash_base.proofs.throughput.keys.are_listed.Given as goal

abbrev pub invariant-loop-row : goal.invariant-loop-row
invariant-loop-row l = record {
  within : l.found ≤ length l.kept;
  listed : AreListed l.rows l.kept l.found;
}
