use Rattle.std.proofs.Common.{◌≡◌, length}
use Rattle.prodash_tui.specs.InformationPanes.{with_lines}
use Rattle.prodash_tui.proofs.draw.information.draw_lines.Given as goal

abbrev pub decreases-loop-line : goal.decreases-loop-line
decreases-loop-line l = length l.left

abbrev pub invariant-loop-line : goal.invariant-loop-line
invariant-loop-line l = with_lines l.area l.row l.left l.grid ≡ with_lines l.area 0 l.fn.lines l.fn.grid
