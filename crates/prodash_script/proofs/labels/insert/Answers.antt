use Rattle.prodash_script.proofs.KeptNames.{inserted_name}
use Rattle.std.proofs.Common.{rules}
use Rattle.prodash_script.proofs.labels.insert.Goals as goal

pub returns-clause-ok : goal.returns-clause-ok
returns-clause-ok c = search (rules, inserted_name c.args.name c.args.names.now.keys)
