-- proofs/render/line/draw/line_copier/LineCopier/copy_run/Invariants.antt
use Rattle.std.proofs.Common.{◌≡◌, ◌≤◌, ◌<◌, ◌+◌, ◌-◌, ◌++◌, length, take}
use Rattle.prodash_line.specs.plumbing.LineCopying.{GoesOn, gone_of}
use Rattle.prodash_line.specs.plumbing.WrittenRows.{KeepsRunIn, left_at}
use Rattle.prodash_line.proofs.render.line.draw.line_copier.LineCopier.copy_run.Given as goal

abbrev pub invariant-loop-size : goal.invariant-loop-size
invariant-loop-size l = record {
  written : l.written ≡ length l.self.bytes.0;
  start : l.start ≡ gone_of l.self;
  room : l.written + length l.self.bytes.1 < 4294967296;
  begins : l.start ≤ l.end;
  ends : l.end - l.start ≤ length l.self.bytes.1;
  index : l.at.index ≤ l.n;
  left : GoesOn l.fn.self l.self;
  run : KeepsRunIn l.tracker l.fn.levels l.rows l.fn.self (left_at l.rows l.tracker (l.at.index, l.at.widths.now) l.fn.self.bytes.0 l.fn.drawn)
      (left_at l.rows l.tracker (l.n, l.left) (l.self.bytes.0 ++ take (l.end - l.start) l.self.bytes.1) l.drawn) l.self.lines.0;
}

abbrev pub decreases-loop-size : goal.decreases-loop-size
decreases-loop-size l = length l.rows - l.n
