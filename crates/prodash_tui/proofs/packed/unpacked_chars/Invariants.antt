use Rattle.std.proofs.Common.{◌≡◌, ◌-◌, ◌++◌, length}
use Rattle.std.specs.Char.{IsScalar}
use Rattle.std.specs.List.{AllByRecursion}
use Rattle.prodash_tui.specs.plumbing.PackedCells.{unpacked_chars}
use Rattle.prodash_tui.proofs.packed.unpacked_chars.Given as goal

abbrev pub invariant-loop : goal.invariant-loop
invariant-loop l =
    (l.joined ++ unpacked_chars (4 - l.counter) l.left ≡ unpacked_chars 4 l.code)
    × (length l.joined ≡ l.counter)
    × AllByRecursion IsScalar (unpacked_chars (4 - l.counter) l.left)
