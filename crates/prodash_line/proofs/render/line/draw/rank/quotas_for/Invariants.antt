use Rattle.std.proofs.Common.{◌≡◌, drop}
use Rattle.prodash_base.specs.Rows.{rows_of}
use Rattle.prodash_line.specs.ProgressRows.{filtered}
use Rattle.prodash_line.specs.RowRanks.{ranks_of}
use Rattle.prodash_line.specs.plumbing.Choosing.{all_reserved}
use Rattle.prodash_line.specs.plumbing.FrameWriting.{quotas_for}
use Rattle.prodash_line.proofs.render.line.draw.rank.quotas_for.Given as goal

abbrev pub invariant-loop-n : goal.invariant-loop-n
invariant-loop-n l = all_reserved l.quotas (ranks_of (filtered l.levels (rows_of (drop l.n l.rows)))) ≡ quotas_for l.levels l.rows l.most
