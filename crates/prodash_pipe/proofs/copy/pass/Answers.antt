use Rattle.prodash_pipe.proofs.Copying.{begins_block, passes_none, passes_part}
use Rattle.prodash_pipe.proofs.copy.pass.Goals.{in-Ok, in-Err}
use Rattle.prodash_pipe.proofs.copy.pass.Goals as goal

pub loop-init : goal.loop-init
loop-init g c = begins_block c.args.block.now _ c.args.meter.now

pub loop-preserved : goal.loop-preserved
loop-preserved g c = elim c.match-write.branch [
  | in-Ok w ↦ rw (w.meter-is, w.rest-is) (passes_part c.loop.invariant w.in-Ok.count _ w.add.new.self w.in-Ok.ensures.bytes w.add.ensures.counts)
  | in-Err w ↦ rw (w.meter-is, w.rest-is) (passes_none c.loop.invariant _ w.in-Err.ensures.bytes)
]
