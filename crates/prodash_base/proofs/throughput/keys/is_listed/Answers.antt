use Rattle.std.proofs.Common.{rules, tests, ◌∙◌, nat_eq}
use Rattle.std.specs.Cmp.Lexicographic.{pointwise}
use Rattle.std.proofs.lemmas.Iterator.{YieldsList-from_slice}
use Rattle.std.proofs.lemmas.Iterator.Search.{any_from_yields_List}
use Rattle.prodash_base.proofs.ListedRows.{listed_by_key}
use Rattle.prodash_base.proofs.throughput.keys.is_listed.Goals as goal

pub returns : goal.returns
returns c =
    any_from_yields_List (λ row. pointwise nat_eq c.args.key.now row.key) _ _ _ c.any.ensures.ran
    (YieldsList-from_slice c.args.rows.now cc) (λ x b q k. search (rules, tests)) ∙ listed_by_key c.args.key.now c.args.rows.now
