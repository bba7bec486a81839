use Rattle.std.proofs.Common.{◌<◌, ◌^◌, drop}
use Rattle.prodash_script.proofs.Numerals.{IsRead}
use Rattle.prodash_script.proofs.words.number.Given as goal

abbrev pub invariant-loop-digit : goal.invariant-loop-digit
invariant-loop-digit l = (l.n < 2 ^ 64) × IsRead l.fn.word l.n (drop l.digit-index l.fn.word)
