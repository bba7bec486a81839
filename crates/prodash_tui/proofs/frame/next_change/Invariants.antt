use Rattle.std.proofs.Common.{◌≡◌, ◌-◌, ◌≤◌}
use Rattle.prodash_tui.specs.plumbing.Appended.{changes_from}
use Rattle.prodash_tui.proofs.frame.next_change.Given as goal

abbrev pub invariant-loop-k : goal.invariant-loop-k
invariant-loop-k l = record {
  behind : l.x ≤ l.k;
  within : l.k ≤ l.end;
  same : changes_from l.x l.old l.new ≡ changes_from l.k l.old l.new;
}

abbrev pub decreases-loop-k : goal.decreases-loop-k
decreases-loop-k l = l.end - l.k

abbrev pub invariant-loop-k-2 : goal.invariant-loop-k-2
invariant-loop-k-2 l = record {
  behind : l.x ≤ l.k;
  within : l.k ≤ l.end;
  same : changes_from l.x l.old l.new ≡ changes_from l.k l.old l.new;
}

abbrev pub decreases-loop-k-2 : goal.decreases-loop-k-2
decreases-loop-k-2 l = l.end - l.k
