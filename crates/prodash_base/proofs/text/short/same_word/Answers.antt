use Rattle.std.proofs.Common.{arith}
use Rattle.prodash_base.proofs.ShortTexts.{same_words}
use Rattle.prodash_base.proofs.text.short.same_word.Goals as goal

pub returns : goal.returns
returns c =
    same_words c.args.at c.args.a.now c.args.b.now c.word.result c.word-2.result c.fits-a c.fits-b
    (omega (arith, c.told-a, c.requires)) (omega (arith, c.told-b, c.requires)) c.word.ensures c.word-2.ensures
