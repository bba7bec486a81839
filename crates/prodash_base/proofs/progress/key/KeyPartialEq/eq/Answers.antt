use Rattle.std.proofs.Common.{rules, ◌∙◌}
use Rattle.std.specs.Prelude.{nat_eq, ◌&&◌}
use Rattle.prodash_base.proofs.KeyOrder.{same_by_later_words}
use Rattle.prodash_base.proofs.progress.key.KeyPartialEq.eq.Goals as goal

pub returns-then-eq : goal.returns-then-eq
returns-then-eq c =
    let own = c.later_words.ensures in
    let others = c.later_words-then-eq.ensures in
    c.eq-then-eq.ensures
    ∙ (λ i. (nat_eq (own.second i) (others.second i) && nat_eq (own.third i) (others.third i)) && nat_eq (own.level i) (others.level i))
    ∙ same_by_later_words c.args.self.now c.args.other.now own.path others.path (search rules) (search rules)
