-- proofs/render/line/draw/frame/write_rows/Invariants.antt
use Rattle.std.proofs.Common.{drop}
use Rattle.prodash_line.specs.plumbing.WrittenRows.{ComesTo}
use Rattle.prodash_line.proofs.render.line.draw.frame.write_rows.Given as goal

abbrev pub invariant-loop-row : goal.invariant-loop-row
invariant-loop-row l = ComesTo l.scene
    (record { rows = l.rows; widths = l.widths; bytes = l.fn.out.bytes; tracker = l.fn.tracker; drawn = l.fn.drawn })
    (record { rows = drop l.row-index l.rows; widths = l.left; bytes = l.out.bytes; tracker = l.tracker; drawn = l.drawn })
