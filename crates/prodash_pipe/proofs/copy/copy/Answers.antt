use Rattle.std.proofs.Common.{rules}
use Rattle.prodash_pipe.proofs.Copying.{begins_copy, copies_beginning, copies_block, copies_none}
use Rattle.prodash_pipe.proofs.copy.copy.Goals.{in-Ok+in_ok-pass-in-Ok, in-Err}
use Rattle.prodash_pipe.proofs.copy.copy.Goals as goal

pub loop-init : goal.loop-init
loop-init g c = begins_copy _ _ c.args.meter.now

pub returns-in_err-pass-in-Ok : goal.returns-in_err-pass-in-Ok
returns-in_err-pass-in-Ok g c =
    copies_beginning c.loop.invariant c.pass.result c.from_residual.result _ _ _ _ c.in-Ok.ensures.bytes.0 c.pass.ensures (search rules)

pub loop-preserved : goal.loop-preserved
loop-preserved g c = elim c.match-read.branch [
  | in-Ok+in_ok-pass-in-Ok w ↦ rw (w.out-is, w.meter-is) (copies_block c.loop.invariant _ _ _ _ _ w.in-Ok.ensures.bytes.0 w.in_ok-pass-in-Ok.ensures)
  | in-Err w ↦ rw (w.out-is, w.meter-is) (copies_none c.loop.invariant _ w.in-Err.ensures.bytes)
]
