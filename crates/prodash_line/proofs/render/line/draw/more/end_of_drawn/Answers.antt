use Rattle.std.proofs.Common.{arith}
use Rattle.prodash_line.proofs.FittingRows.{count_within}
use Rattle.prodash_line.proofs.render.line.draw.more.end_of_drawn.Goals as goal

pub returns-then-left-eq0-clause-count : goal.returns-then-left-eq0-clause-count
returns-then-left-eq0-clause-count c = omega (arith, c.loop-n.invariant, c.if-left-eq0.true, count_within c.args.levels c.args.rows.now c.loop-n.n)
