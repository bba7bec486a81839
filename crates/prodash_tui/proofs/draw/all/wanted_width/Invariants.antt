use Rattle.std.proofs.Common.{◌≡◌, ◌+◌, ◌<◌, length}
use Rattle.std.specs.Prelude.{max}
use Rattle.prodash_tui.specs.PaneBounds.{wanted_width}
use Rattle.prodash_tui.proofs.draw.all.wanted_width.Given as goal

abbrev pub decreases-loop-line : goal.decreases-loop-line
decreases-loop-line l = length l.left

abbrev pub invariant-loop-line : goal.invariant-loop-line
invariant-loop-line l = record {
  greatest : max (l.width + 2) (wanted_width l.left) ≡ wanted_width l.fn.lines;
  small : l.width < 65536;
}
