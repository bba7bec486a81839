use Rattle.std.proofs.Common.{◌≡◌, ◌++◌, map, take}
use Rattle.prodash_base.specs.Appending.{IsPrefix}
use Rattle.prodash_tui.specs.Signs.{spelling}
use Rattle.prodash_tui.specs.declared.sign.Sign.TheVariants.{Char}
use Rattle.prodash_tui.proofs.frame.push_chars.Given as goal

abbrev pub invariant-loop-c : goal.invariant-loop-c
invariant-loop-c l = record {
  ok : l.out.items ≡ l.fn.out.items ++ spelling (map Char (take l.c-index l.chars));
  kept : IsPrefix l.fn.out.items l.out.items;
}
