-- What the readers of a line of a script return.
use Rattle.std.specs.Prelude.{◌≡◌, ℕ, Option, Result, IfOk, String, option_map}
use Rattle.std.specs.HashMap.{HashMap}
use Rattle.prodash_script.specs.Commands.{accepted, event_of, handle_in, moment_in, plain_command}
use Rattle.prodash_script.specs.Mistakes.{plain_mistake}
use Rattle.prodash_script.specs.Words.{Reader}
use Rattle.prodash_script.specs.declared.command.Command.{Command}
use Rattle.prodash_script.specs.declared.mistake.Mistake.{Mistake}

-- on success the command that was read, if one was
abbrev pub ReadsCommand : {E : Type 0} → Result (Option Command) E → Option Command → Type 0
ReadsCommand result command = IfOk result (λ found. option_map plain_command found ≡ command)

-- the command as which a line is accepted, given the handles of names and the moment that is now
abbrev pub accepted_in : {Z S : Type 0} → HashMap (String Z) ℕ S → ℕ → Reader Command
accepted_in names now = accepted (handle_in names) now

-- the command of a line of events, likewise
abbrev pub event_in : {Z S : Type 0} → HashMap (String Z) ℕ S → ℕ → Reader Command
event_in names now = event_of (handle_in names) (moment_in now)

-- the mistake that was found, if one was
abbrev pub Finds : Option Mistake → Option Mistake → Type 0
Finds found mistake = option_map plain_mistake found ≡ mistake
