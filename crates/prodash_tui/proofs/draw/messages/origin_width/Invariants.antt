use Rattle.std.proofs.Common.{◌≡◌, length}
use Rattle.std.specs.Prelude.{max}
use Rattle.prodash_tui.specs.MessagePanes.{origin_width}
use Rattle.prodash_tui.proofs.draw.messages.origin_width.Given as goal

abbrev pub decreases-loop-message : goal.decreases-loop-message
decreases-loop-message l = length l.left

abbrev pub invariant-loop-message : goal.invariant-loop-message
invariant-loop-message l = max l.width (origin_width l.left) ≡ origin_width l.fn.messages
