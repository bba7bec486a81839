use Rattle.prodash_script.proofs.KeptNames.{found_name}
use Rattle.std.proofs.Common.{rules}
use Rattle.prodash_script.proofs.labels.find.Goals as goal

pub returns : goal.returns
returns c = search (rules, found_name c.args.text.now c.args.names.now.keys)
