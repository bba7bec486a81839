use Rattle.std.proofs.Common.{◌≡◌, ◌+◌, ◌≤◌, drop}
use Rattle.prodash_line.specs.plumbing.FrameWriting.{count_of}
use Rattle.prodash_line.proofs.render.line.draw.more.count_drawn.Given as goal

abbrev pub invariant-loop-row : goal.invariant-loop-row
invariant-loop-row l = record {
  few : l.count ≤ l.row-index;
  sum : l.count + count_of l.levels (drop l.row-index l.rows) ≡ count_of l.levels l.rows;
}
