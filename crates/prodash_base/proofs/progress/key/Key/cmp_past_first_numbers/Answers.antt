use Rattle.std.proofs.Common.{◌∙◌}
use Rattle.std.specs.Ordering.{nat_cmp, ordering_then}
use Rattle.prodash_base.proofs.KeyOrder.{paths_by_later_words}
use Rattle.prodash_base.proofs.progress.key.Key.cmp_past_first_numbers.Goals as goal

pub returns : goal.returns
returns c =
    let own = c.later_words.ensures in
    let others = c.later_words-2.ensures in
    c.cmp.ensures
    ∙ (λ i. ordering_then (ordering_then (nat_cmp (own.second i) (others.second i)) (nat_cmp (own.third i) (others.third i))) (nat_cmp (own.level i) (others.level i)))
    ∙ paths_by_later_words c.args.self.now c.args.other.now own.path others.path c.requires
