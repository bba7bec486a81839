use Rattle.std.proofs.Common.{◌≡◌, ◌-◌, ◌≤◌, ◌++◌}
use Rattle.prodash_line.specs.ProgressRows.{numbered_cells}
use Rattle.prodash_line.specs.plumbing.Writing.{SameLine}
use Rattle.prodash_line.proofs.render.line.draw.bar.push_numbered_cells.Given as goal

abbrev pub invariant-loop-number : goal.invariant-loop-number
invariant-loop-number l = record {
  upward : l.step ≤ l.number;
  written : l.out.bytes ≡ l.fn.out.bytes ++ numbered_cells l.number (l.end - l.number);
  line : SameLine l.fn.out l.out;
}
