use Rattle.std.proofs.Common.{◌+◌, ◌≤◌, length, vec_len, vec_capacity}
use Rattle.prodash_core.specs.Sessions.{new_session}
use Rattle.prodash_core.proofs.RunLaws.{Completes}
use Rattle.prodash_core.proofs.tree.runs.run.Given as goal

abbrev pub invariant-loop-event : goal.invariant-loop-event
invariant-loop-event g l = record {
  completes : Completes (new_session l.options) (g.S.Screen.state l.fn.screen) l.fn.events l.replies.items l.session (g.S.Screen.state l.screen) l.left;
  room : vec_len l.replies + length l.left ≤ vec_capacity l.replies;
}

abbrev pub decreases-loop-event : goal.decreases-loop-event
decreases-loop-event g l = length l.left
