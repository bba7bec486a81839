use Rattle.prodash_base.specs.Rows.{rows_of}
use Rattle.prodash_core.proofs.TableRows.{rows_in_order}
use Rattle.prodash_core.proofs.tree.table.TreeCore.refill.Goals as goal

pub returns-clause-shows : goal.returns-clause-shows
returns-clause-shows g c =
    rw (← c.self.view_is) (rows_in_order (g.N.Counters.shows c.args.counters.now) c.self.inside.tasks.entries (rows_of c.refill_rows.new.rows.items)
    c.in_ok-refill_rows.ensures.rows c.in_ok-refill_rows.ensures.ordered).0

pub returns-clause-each : goal.returns-clause-each
returns-clause-each g c =
    rw (← c.self.view_is) (rows_in_order (g.N.Counters.shows c.args.counters.now) c.self.inside.tasks.entries (rows_of c.refill_rows.new.rows.items)
    c.in_ok-refill_rows.ensures.rows c.in_ok-refill_rows.ensures.ordered).1
