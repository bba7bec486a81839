use Rattle.std.proofs.Common.{[], None}
use Rattle.prodash_line.proofs.OverwriteBytes.{blanks_more}
use Rattle.prodash_line.proofs.render.line.draw.frame.write_blanks.Goals as goal

pub loop-width-preserved : goal.loop-width-preserved
loop-width-preserved c =
    blanks_more c.args.widths.now c.loop-width.width-index c.loop-width.out.bytes _ _ c.loop-width-test.true
    (c.in_ok-end_line_over.ensures.bytes None c.loop-width.out [] c.begin_line.ensures).bytes c.loop-width.invariant
