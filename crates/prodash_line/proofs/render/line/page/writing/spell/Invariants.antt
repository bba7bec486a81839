use Rattle.std.proofs.Common.{◌≡◌, take}
use Rattle.prodash_line.specs.Signs.{spelling}
use Rattle.prodash_line.proofs.render.line.page.writing.spell.Given as goal

abbrev pub invariant-loop-sign : goal.invariant-loop-sign
invariant-loop-sign l = l.out ≡ spelling (take l.sign-index l.signs)
