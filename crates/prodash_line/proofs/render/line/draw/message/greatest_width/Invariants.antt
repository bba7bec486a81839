use Rattle.std.proofs.Common.{◌≡◌, drop}
use Rattle.std.specs.Prelude.{max}
use Rattle.prodash_line.specs.MessageLines.{greatest_width}
use Rattle.prodash_line.proofs.render.line.draw.message.greatest_width.Given as goal

abbrev pub invariant-loop-width : goal.invariant-loop-width
invariant-loop-width l = max l.greatest (greatest_width (drop l.width-index l.widths)) ≡ greatest_width l.widths
