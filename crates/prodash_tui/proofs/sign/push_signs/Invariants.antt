use Rattle.std.proofs.Common.{◌≡◌, ◌++◌, take}
use Rattle.prodash_base.specs.Appending.{IsPrefix}
use Rattle.prodash_tui.specs.Signs.{spelling}
use Rattle.prodash_tui.proofs.sign.push_signs.Given as goal

abbrev pub invariant-loop-sign : goal.invariant-loop-sign
invariant-loop-sign l = record {
  ok : l.out.items ≡ l.fn.out.items ++ spelling (take l.sign-index l.signs);
  kept : IsPrefix l.fn.out.items l.out.items;
}
