use Rattle.std.proofs.Common.{◌≡◌, false, ap, rules}
use Rattle.std.specs.Prelude.{None}
use Rattle.prodash_script.specs.Commands.{accepted, handle_in, is_comment}
use Rattle.prodash_script.specs.Mistakes.{first_mistake, plain_mistake}
use Rattle.prodash_script.specs.declared.command.Command.TheVariants.{Fault}
use Rattle.prodash_script.proofs.script.parse_command.Goals as goal

pub returns-in-Some : goal.returns-in-Some
returns-in-Some c =
    let comment : is_comment c.args.line.now ≡ false = search rules in
    rw comment (search rules)

pub returns-in-None : goal.returns-in-None
returns-in-None c =
    let comment : is_comment c.args.line.now ≡ false = search rules in
    let none : accepted (handle_in c.args.names.now) c.args.now c.args.line.now ≡ None = search rules in
    let mistake : plain_mistake c.first_mistake.result ≡ first_mistake (handle_in c.args.names.now) c.args.line.now = search rules in
    rw (comment, none) (ap Fault mistake)
