use Rattle.std.proofs.Common.{ap, ◌∙◌, ◌&&◌, nat_eq}
use Rattle.prodash_base.proofs.ShortTexts.{same_padded}
use Rattle.prodash_base.proofs.text.short.ShortText.equals.Goals as goal

pub returns : goal.returns
returns c =
    let a = c.self.inside in
    let b = c.other.inside in
    let tests = same_padded a.count b.count a.bytes b.bytes c.self.invariant c.other.invariant in
    ap (λ test. nat_eq a.count b.count && test) c.same_bytes.ensures ∙ (rw (← c.self.view_is, ← c.other.view_is) tests)
