-- The lines of scripts that change the step of an item.
use Rattle.std.specs.Prelude.{ℕ, Option, Some, None}
use Rattle.prodash_script.specs.declared.change.Change.{Change}
use Rattle.prodash_script.specs.declared.change.Change.TheVariants as changes
use Rattle.prodash_script.specs.declared.change.StepChange.{StepChange}
use Rattle.prodash_script.specs.declared.change.StepChange.TheVariants as steps
use Rattle.prodash_script.specs.declared.command.Command.{Command}
use Rattle.prodash_script.specs.declared.command.Command.TheVariants as commands

-- a change of a step as a change of an item
abbrev pub as_change : StepChange → Change
as_change (steps.Set step) = changes.Set step
as_change (steps.IncBy step) = changes.IncBy step

-- the item and the change of its step, if that is what a command asks for
abbrev pub step_in : Command → Option (ℕ × StepChange)
step_in (commands.Change item (changes.Set step)) = Some (item, steps.Set step)
step_in (commands.Change item (changes.IncBy step)) = Some (item, steps.IncBy step)
step_in _ = None
