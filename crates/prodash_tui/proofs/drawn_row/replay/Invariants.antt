use Rattle.std.proofs.Common.{◌≡◌, drop, length}
use Rattle.prodash_tui.specs.plumbing.Calls.{played}
use Rattle.prodash_tui.proofs.drawn_row.replay.Given as goal

abbrev pub invariant-loop-call : goal.invariant-loop-call
invariant-loop-call l = record {
  cells : played (drop l.call-index l.calls) l.cells ≡ played l.calls l.fn.cells;
  width : length l.cells ≡ length l.fn.cells;
}
