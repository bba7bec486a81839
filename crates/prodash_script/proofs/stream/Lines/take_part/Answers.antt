use Rattle.std.proofs.Common.{arith, length-take, ◌-◌, ◌≤◌, drop}
use Rattle.prodash_script.proofs.LineFeeds.{slice_rest}
use Rattle.prodash_script.proofs.stream.Lines.take_part.Goals as goal

pub returns-clause-ok : goal.returns-clause-ok
returns-clause-ok g c =
    let s = c.self.inside in
    let within : c.in_ok-count.count ≤ s.end - s.at = omega (arith, c.in_ok-count.ensures.count, length-take (s.end - s.at) (drop s.at s.chunk)) in
    rw (← c.self.view_is, ← slice_rest s.chunk s.at s.end c.in_ok-count.count within) c.in_ok-count.ensures.part
