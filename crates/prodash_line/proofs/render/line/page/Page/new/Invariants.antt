use Rattle.std.proofs.Common.{◌≡◌, replicate}
use Rattle.prodash_line.specs.CellRows.{blank_cells}
use Rattle.prodash_line.proofs.render.line.page.Page.new.Given as goal

abbrev pub invariant-loop : goal.invariant-loop
invariant-loop l = l.blanks.items ≡ replicate l.counter (blank_cells l.columns)
