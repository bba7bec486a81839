use Rattle.std.proofs.Common.{◌≡◌, length}
use Rattle.prodash_line.specs.plumbing.Writing.{is_printable}
use Rattle.prodash_line.proofs.render.line.draw.text.is_all_printable.Given as goal

abbrev pub invariant-blocks-2 : goal.invariant-blocks-2
invariant-blocks-2 l = is_printable l.left ≡ is_printable l.text

abbrev pub decreases-blocks-2 : goal.decreases-blocks-2
decreases-blocks-2 l = length l.left

abbrev pub invariant-eights : goal.invariant-eights
invariant-eights l = is_printable l.left ≡ is_printable l.text

abbrev pub decreases-eights : goal.decreases-eights
decreases-eights l = length l.left
