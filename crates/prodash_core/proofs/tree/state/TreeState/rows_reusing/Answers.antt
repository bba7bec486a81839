use Rattle.std.specs.FinMap.{entries}
use Rattle.std.proofs.Common.{◌≡◌}
use Rattle.prodash_core.specs.Tables.{RowsShow}
use Rattle.prodash_core.specs.Trees.{counter_at}
use Rattle.prodash_core.proofs.RowsOfTasks.{shown_rows, if_ok}
use Rattle.prodash_core.proofs.tree.state.TreeState.rows_reusing.Goals as goal

pub returns-clause-ok : goal.returns-clause-ok
returns-clause-ok c =
    let slots = c.self.inside.handles in
    rw (← c.self.view_is) (if_ok c.rows_reusing.result (RowsShow (λ c n. n ≡ counter_at slots c) c.self.inside.table) _
    (λ rows h. shown_rows (counter_at slots) (entries c.self.inside.table) rows h) c.rows_reusing.ensures.shows)
