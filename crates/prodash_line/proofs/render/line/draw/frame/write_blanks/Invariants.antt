use Rattle.std.proofs.Common.{◌≡◌, ◌++◌, drop}
use Rattle.prodash_line.specs.plumbing.OverwriteBytes.{blank_bytes}
use Rattle.prodash_line.proofs.render.line.draw.frame.write_blanks.Given as goal

abbrev pub invariant-loop-width : goal.invariant-loop-width
invariant-loop-width l = l.out.bytes ++ blank_bytes (drop l.width-index l.widths) ≡ l.fn.out.bytes ++ blank_bytes l.widths
