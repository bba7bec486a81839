use Rattle.prodash_script.proofs.ScriptLines.{stripped}
use Rattle.prodash_script.proofs.script.after.Goals as goal

pub returns : goal.returns
returns c = stripped c.args.prefix.now c.args.text.now c.strip_prefix.result c.strip_prefix.ensures.cases
