use Rattle.std.proofs.Common.{arith}
use Rattle.prodash_line.proofs.Cutting.{fits_whole, fits_prefix}
use Rattle.prodash_line.proofs.render.line.draw.fitting.fit_printable.Goals as goal

pub returns-then-count-left-clause-fits : goal.returns-then-count-left-clause-fits
returns-then-count-left-clause-fits c = λ text h e.
    rw c.in-Columns.is (fits_whole c.in-Columns.left c.args.count text h e (omega arith))

pub returns-else-count-left-clause-fits : goal.returns-else-count-left-clause-fits
returns-else-count-left-clause-fits c = λ text h e.
    rw c.in-Columns.is (fits_prefix c.in-Columns.left c.args.count text h e (omega arith))
