use Rattle.std.proofs.Common.{rules}
use Rattle.prodash_script.proofs.StepLines.{step_read}
use Rattle.prodash_script.proofs.script.parse_step.Goals as goal

pub returns-in_err-item : goal.returns-in_err-item
returns-in_err-item c = step_read c.args.names.now c.args.line.now (search rules)

pub returns-in-Some : goal.returns-in-Some
returns-in-Some c = step_read c.args.names.now c.args.line.now (search rules)

pub returns-in_err-after : goal.returns-in_err-after
returns-in_err-after c = step_read c.args.names.now c.args.line.now (search rules)

pub returns-in_err-item-2 : goal.returns-in_err-item-2
returns-in_err-item-2 c = step_read c.args.names.now c.args.line.now (search rules)

pub returns : goal.returns
returns c = step_read c.args.names.now c.args.line.now (search rules)
