use Rattle.std.proofs.Common.{◌≡◌, drop}
use Rattle.prodash_base.specs.Rows.{rows_of}
use Rattle.prodash_line.specs.Renderer.{any_goes_on}
use Rattle.prodash_line.proofs.render.line.draw.state.any_goes_on.Given as goal

abbrev pub invariant-loop-row : goal.invariant-loop-row
invariant-loop-row l = any_goes_on l.levels (rows_of (drop l.row-index l.rows)) ≡ any_goes_on l.levels (rows_of l.rows)
