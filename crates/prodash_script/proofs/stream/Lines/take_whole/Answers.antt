use Rattle.std.proofs.Common.{arith, refl, length-take, ◌+◌, ◌-◌, ◌≤◌, drop}
use Rattle.prodash_script.specs.declared.next.TheConstants.{LIMIT}
use Rattle.prodash_script.proofs.LineFeeds.{finds_in_slice}
use Rattle.prodash_script.proofs.stream.Lines.take_whole.Goals as goal

pub returns : goal.returns
returns g c =
    let s = c.self.inside in
    let found = finds_in_slice s.chunk s.at s.end c.in-Some.count c.self.invariant.0 c.in-Some.ensures in
    let count : s.at + c.in-Some.count - s.at ≤ LIMIT = omega (arith, c.self.invariant.1, c.in-Some.ensures.0, length-take (s.end - s.at) (drop s.at s.chunk)) in
    rw (← c.self.view_is) (found, omega (arith, length-take (s.at + c.in-Some.count - s.at) (drop s.at s.chunk)), refl)
