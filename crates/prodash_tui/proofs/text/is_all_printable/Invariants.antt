use Rattle.std.proofs.Common.{◌≡◌, true, take}
use Rattle.prodash_line.specs.plumbing.Writing.{is_printable}
use Rattle.prodash_tui.proofs.text.is_all_printable.Given as goal

abbrev pub invariant-loop-byte : goal.invariant-loop-byte
invariant-loop-byte l = is_printable (take l.byte-index l.text) ≡ true
