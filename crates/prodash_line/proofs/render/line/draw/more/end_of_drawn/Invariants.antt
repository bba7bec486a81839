use Rattle.std.proofs.Common.{◌≡◌, ◌+◌, take}
use Rattle.prodash_line.specs.plumbing.FrameWriting.{count_of}
use Rattle.prodash_line.proofs.render.line.draw.more.end_of_drawn.Given as goal

abbrev pub invariant-loop-n : goal.invariant-loop-n
invariant-loop-n l = count_of l.levels (take l.n l.rows) + l.left ≡ l.most
