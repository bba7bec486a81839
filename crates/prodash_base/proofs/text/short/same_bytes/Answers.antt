use Rattle.prodash_base.proofs.ShortTexts.{same_lists}
use Rattle.prodash_base.proofs.text.short.same_bytes.Goals as goal

pub returns : goal.returns
returns c =
    same_lists c.args.a.now c.args.b.now c.same_word.result c.same_word-2.result c.same_word-3.result
    c.same_word-4.result c.told-a c.told-b c.same_word.ensures c.same_word-2.ensures c.same_word-3.ensures
    c.same_word-4.ensures
