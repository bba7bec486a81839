use Rattle.std.proofs.Common.{rules, ◌∙◌}
use Rattle.std.proofs.lemmas.Fn.{always_returns_same}
use Rattle.prodash_base.specs.declared.progress.Row.{Row}
use Rattle.prodash_base.proofs.ListedRows.{found}
use Rattle.prodash_base.proofs.throughput.keys.is_found.Goals as goal

pub returns : goal.returns
returns c = λ up.
    c.is_ok.ensures.value
    ∙ found c.args.key.now c.args.rows.now c.binary_search_by_key.result up c.binary_search_by_key.ensures.bound
    (c.binary_search_by_key.ensures.position (λ (row : Row). row.key) (always_returns_same _ _ _ (λ a r f' k. search rules)))
