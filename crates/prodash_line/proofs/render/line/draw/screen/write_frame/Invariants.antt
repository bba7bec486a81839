use Rattle.std.proofs.Common.{length, ◌-◌, false, ◌≡◌, ◌<◌, ◌≤◌, ◌++◌, take, IsTrue}
use Rattle.prodash_line.proofs.render.line.draw.screen.write_frame.Given as goal

abbrev pub invariant-loop-done : goal.invariant-loop-done
invariant-loop-done g l = record {
  within : l.done ≤ length l.frame;
  taken : (g.S.Screen.state l.screen).bytes ≡ (g.S.Screen.state l.fn.screen).bytes ++ take l.done l.frame;
  was_broken : IsTrue (g.S.Screen.state l.fn.screen).broken → IsTrue (g.S.Screen.state l.screen).broken × (l.done ≡ 0);
  is_broken : (0 < l.done) → (g.S.Screen.state l.screen).broken ≡ false;
}

abbrev pub decreases-loop-done : goal.decreases-loop-done
decreases-loop-done g l = length l.frame - l.done
