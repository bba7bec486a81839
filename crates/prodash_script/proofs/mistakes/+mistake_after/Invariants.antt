use Rattle.std.proofs.Common.{length}
use Rattle.prodash_script.proofs.mistakes.+mistake_after.Given as goal

abbrev pub decreases-mistake_after : goal.decreases-mistake_after
decreases-mistake_after l = length l.arguments.now
