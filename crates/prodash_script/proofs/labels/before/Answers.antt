use Rattle.prodash_script.proofs.ScriptLines.{stripped_end}
use Rattle.prodash_script.proofs.labels.before.Goals as goal

pub returns : goal.returns
returns c = stripped_end c.args.suffix.now c.args.text.now c.strip_suffix.result c.strip_suffix.ensures.cases
