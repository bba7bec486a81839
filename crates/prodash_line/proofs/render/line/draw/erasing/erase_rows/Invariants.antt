use Rattle.std.proofs.Common.{◌≡◌, ◌-◌, ◌++◌}
use Rattle.prodash_line.specs.Signs.{spelling}
use Rattle.prodash_line.specs.Frames.{erased_rows}
use Rattle.prodash_line.proofs.render.line.draw.erasing.erase_rows.Given as goal

abbrev pub invariant-loop : goal.invariant-loop
invariant-loop l = l.out.bytes ++ spelling (erased_rows (l.count - l.counter)) ≡ l.fn.out.bytes ++ spelling (erased_rows l.count)
