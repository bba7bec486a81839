use Rattle.std.proofs.Common.{◌≡◌, ◌+◌}
use Rattle.prodash_tui.specs.plumbing.Appended.{changes_from}
use Rattle.prodash_tui.proofs.frame.is_same_run.Given as goal

abbrev pub invariant-loop-k : goal.invariant-loop-k
invariant-loop-k l = changes_from l.x l.old l.new ≡ changes_from (l.x + l.k) l.old l.new
