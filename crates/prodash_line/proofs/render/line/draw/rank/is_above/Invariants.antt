use Rattle.std.proofs.Common.{◌≡◌, drop}
use Rattle.prodash_base.specs.Rows.{row_of, rows_of}
use Rattle.prodash_line.specs.ProgressRows.{filtered}
use Rattle.prodash_line.specs.RowRanks as ranks
use Rattle.prodash_line.proofs.render.line.draw.rank.is_above.Given as goal

abbrev pub invariant-loop-other : goal.invariant-loop-other
invariant-loop-other l = ranks.is_above l.standing (row_of l.row) (filtered l.levels (rows_of (drop l.other-index l.after))) ≡ ranks.is_above l.standing (row_of l.row) (filtered l.levels (rows_of l.after))
