use Rattle.std.proofs.Common.{rules}
use Rattle.std.proofs.lemmas.List.{nil_from_length}
use Rattle.prodash_core.proofs.MissingNames.{takes_name, keeps_name, without_names}
use Rattle.prodash_core.proofs.tree.table.put_name.Goals.{else-not-is_empty-via-then-not-is_empty+else-ne, else-not-is_empty-via-else-not-is_empty}
use Rattle.prodash_core.proofs.tree.table.put_name.Goals as goal

pub returns-in-Some : goal.returns-in-Some
returns-in-Some g c = λ more h.
    takes_name c.args.row.now.name c.args.task.now.name c.in-Some.name c.args.names.now.items more c.pop_front.new.self.items (search rules) h (search rules)

pub returns-else-not-is_empty : goal.returns-else-not-is_empty
returns-else-not-is_empty g c = λ more h.
    elim c.else-not-is_empty.branch [
      | else-not-is_empty-via-then-not-is_empty+else-ne w ↦ keeps_name c.args.row.now.name c.args.task.now.name c.args.names.now.items more (search rules) h
      | else-not-is_empty-via-else-not-is_empty w ↦ without_names c.args.row.now.name c.args.task.now.name c.args.names.now.items more (nil_from_length c.args.names.now.items (search rules)) h
    ]
