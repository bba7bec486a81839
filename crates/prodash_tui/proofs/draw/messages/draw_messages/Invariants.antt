use Rattle.std.proofs.Common.{◌≡◌, length}
use Rattle.prodash_tui.specs.MessagePanes.{with_messages}
use Rattle.prodash_tui.proofs.draw.messages.draw_messages.Given as goal

abbrev pub decreases-loop-message : goal.decreases-loop-message
decreases-loop-message l = length l.left

abbrev pub invariant-loop-message : goal.invariant-loop-message
invariant-loop-message l = with_messages l.area l.width l.left l.grid ≡ with_messages l.area l.width l.fn.messages l.fn.grid
