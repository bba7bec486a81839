-- proofs/render/line/draw/frame/write_again/Invariants.antt
use Rattle.std.proofs.Common.{◌-◌, length}
use Rattle.prodash_base.specs.Rows.{rows_of}
use Rattle.prodash_line.specs.plumbing.KeptLines.{AreAmong}
use Rattle.prodash_line.specs.plumbing.LineCopying.{HasLeft}
use Rattle.prodash_line.specs.plumbing.WrittenRows.{ComesTo, left_at}
use Rattle.prodash_line.proofs.render.line.draw.frame.write_again.Given as goal

abbrev pub invariant-rows : goal.invariant-rows
invariant-rows l = record {
  written : ComesTo l.scene
      (record { rows = l.rows; widths = l.widths; bytes = l.fn.out.bytes; tracker = l.fn.tracker; drawn = l.fn.drawn })
      (left_at l.rows l.tracker (l.at.index, l.at.widths.now) l.copier.bytes.0 l.drawn);
  lines : AreAmong l.scene.options l.scene.past.now.midpoint (rows_of l.rows) l.copier.bytes.0 l.copier.lines.0;
  left : HasLeft l.scene.options l.scene.past.now.midpoint l.copier;
}

abbrev pub decreases-rows : goal.decreases-rows
decreases-rows l = length l.rows - l.at.index
