use Rattle.std.proofs.Common.{◌∙◌, sym}
use Rattle.prodash_core.proofs.TableRows.{len-table_of}
use Rattle.prodash_core.proofs.tree.table.TreeCore.len.Goals as goal

pub returns : goal.returns
returns g c = rw (← c.self.view_is) (c.len.ensures.len ∙ sym (len-table_of c.self.inside.tasks.entries c.len.ensures.ordered))
