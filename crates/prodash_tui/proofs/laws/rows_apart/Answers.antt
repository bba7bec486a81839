use Rattle.prodash_tui.proofs.RowsApart.{keeps_to_rows, shows_own_rows}
use Rattle.prodash_tui.proofs.laws.rows_apart.Goals as goal

pub returns-clause-next : goal.returns-clause-next
returns-clause-next c = keeps_to_rows

pub returns-clause-first : goal.returns-clause-first
returns-clause-first c = shows_own_rows
