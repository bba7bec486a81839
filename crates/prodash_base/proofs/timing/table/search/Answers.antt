use Rattle.std.proofs.Common.{rules}
use Rattle.std.proofs.lemmas.Fn.{always_returns_same}
use Rattle.prodash_base.proofs.TimedTables.{Entry, found_at, new_at}
use Rattle.prodash_base.proofs.timing.table.search.Goals as goal

pub returns-clause-found : goal.returns-clause-found
returns-clause-found c =
    found_at c.args.timings.now c.args.key.now c.binary_search_by_key.result c.binary_search_by_key.ensures.bound
    (c.binary_search_by_key.ensures.position (λ (e : Entry). e.0) (always_returns_same _ _ _ (λ a r f' k. search rules)))

pub returns-clause-place : goal.returns-clause-place
returns-clause-place c =
    new_at c.args.timings.now c.args.key.now c.binary_search_by_key.result c.requires c.binary_search_by_key.ensures.bound
    (c.binary_search_by_key.ensures.position (λ (e : Entry). e.0) (always_returns_same _ _ _ (λ a r f' k. search rules)))
