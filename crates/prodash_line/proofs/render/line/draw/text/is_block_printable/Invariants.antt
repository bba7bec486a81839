use Rattle.std.proofs.Common.{◌≡◌, take}
use Rattle.prodash_line.specs.plumbing.Writing.{is_printable}
use Rattle.prodash_line.proofs.render.line.draw.text.is_block_printable.Given as goal

abbrev pub invariant-loop-byte : goal.invariant-loop-byte
invariant-loop-byte l = l.printable ≡ is_printable (take l.byte-index l.block)
