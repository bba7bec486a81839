-- The commands that lines of scripts are.
use Rattle.std.specs.Prelude.{ℕ, List, [], ◌∷◌, Bool, true, Option, Some, None, String, bytes_eq, codes, is_some, unwrap_or, length, nat_eq, nat_lt, option_map, option_and_then, if◌then◌else◌}
use Rattle.std.specs.Option.{option_map_or}
use Rattle.std.specs.HashMap.{HashMap, get_by_text}
use Rattle.prodash_base.specs.declared.messages.MessageLevel.{MessageLevel}
use Rattle.prodash_base.specs.declared.messages.MessageLevel.TheVariants.{Failure, Info, Success}
use Rattle.prodash_base.specs.declared.unit.units.Unit.{Unit}
use Rattle.prodash_core.specs.declared.tree.event.Event.{Event}
use Rattle.prodash_core.specs.declared.tree.event.Event.TheVariants as events
use Rattle.prodash_script.specs.Mistakes.{first_mistake, name_in, plain_mistake, size_number_of}
use Rattle.prodash_script.specs.Reading.{bound_of, cut_at_space, read_line, text_of, then_read}
use Rattle.prodash_script.specs.Units.{script_unit_in}
use Rattle.prodash_script.specs.Words.{Reader, after_prefix, number_of, plain_unit}
use Rattle.prodash_script.specs.declared.change.Change.{Change}
use Rattle.prodash_script.specs.declared.change.Change.TheVariants as changes
use Rattle.prodash_script.specs.declared.command.Command.{Command}
use Rattle.prodash_script.specs.declared.command.Command.TheVariants as commands

-- a change, wherever the name of its unit is stored
abbrev pub plain_change : Change → Change
plain_change (changes.Init max unit) = changes.Init max (option_map plain_unit unit)
plain_change change = change

-- a command, wherever the name of its unit and the word of its mistake are stored
abbrev pub plain_command : Command → Command
plain_command (commands.Change item change) = commands.Change item (plain_change change)
plain_command (commands.Fault mistake) = commands.Fault (plain_mistake mistake)
plain_command command = command

-- the handle that a word names: that of the item with the name after an `@`, or a number
abbrev pub handle_in : {Z S : Type 0} → HashMap (String Z) ℕ S → List ℕ → Option ℕ
handle_in names word = option_map_or (get_by_text names) (name_in word) (number_of word)

-- the moment that a word names, which is now for a `-`
abbrev pub moment_in : ℕ → List ℕ → Option ℕ
moment_in now word = if bytes_eq word (codes "-") then Some now else number_of word

-- any text but the empty one
abbrev pub nonempty_text_of : Reader (List ℕ)
nonempty_text_of text = if nat_lt 0 (length text) then Some text else None

-- the command that is made of what a reader makes of words
abbrev pub as_command : {A : Type 0} → (A → Command) → Reader A → Reader Command
as_command command read words = option_map command (read words)

-- `WORD H NAME` as an item that is added, with the word as its name in the script
abbrev pub named_add_of : Reader ℕ → Reader Command
named_add_of handle =
    as_command (λ a. commands.Add (Some a.0) a.1.0 a.1.1)
    (then_read nonempty_text_of (then_read handle text_of))

-- the words of a bound and of a unit; without a unit the latter is `-`
abbrev pub bound_and_unit : List ℕ → List ℕ × List ℕ
bound_and_unit text = unwrap_or (cut_at_space text) (text, codes "-")

-- `MAX` or `MAX UNIT` as a bound and a unit
abbrev pub progress_of : Reader (Option ℕ × Option Unit)
progress_of text =
    option_and_then
    (λ max. option_map (λ unit. (max, unit)) (script_unit_in (bound_and_unit text).1))
    (bound_of (bound_and_unit text).0)

-- `H MAX` or `H MAX UNIT` as the begin of an item's progress, in any unit
abbrev pub begin_of : Reader ℕ → Reader Command
begin_of handle =
    as_command (λ a. commands.Change a.0 (changes.Init a.1.0 a.1.1)) (then_read handle progress_of)

-- `COLUMNS ROWS` as the size of the terminal
abbrev pub size_of : Reader Command
size_of = as_command (λ a. commands.Size a.0 a.1) (then_read size_number_of size_number_of)

-- `TEXT` as a line that is printed
abbrev pub print_of : Reader Command
print_of = as_command commands.Print text_of

-- `AT TEXT`, or `TEXT` that is said now; a moment alone has no text
abbrev pub said_of : ℕ → Reader (ℕ × List ℕ)
said_of now words =
    if is_some (bound_of words) then None
    else Some (unwrap_or (then_read (moment_in now) text_of words) (now, words))

-- `H AT TEXT` or `H TEXT` as a message of a severity
abbrev pub send_of : MessageLevel → Reader ℕ → ℕ → Reader Command
send_of level handle now =
    as_command (λ a. commands.Change a.0 (changes.Message a.1.0 level a.1.1))
    (then_read handle (said_of now))

-- the command for an event; none draws a frame
abbrev pub event_command : Event → Option Command
event_command (events.AddChild parent name id) = Some (commands.Add None parent name)
event_command (events.Drop item) = Some (commands.Drop item)
event_command events.DropRoot = Some commands.DropRoot
event_command (events.Init item max unit) = Some (commands.Change item (changes.Init max unit))
event_command (events.SetName item name) = Some (commands.Change item (changes.SetName name))
event_command (events.SetMax item max) = Some (commands.Change item (changes.SetMax max))
event_command (events.Set item step) = Some (commands.Change item (changes.Set step))
event_command (events.IncBy item step) = Some (commands.Change item (changes.IncBy step))
event_command (events.Blocked item reason eta) = Some (commands.Change item changes.Blocked)
event_command (events.Halted item reason eta) = Some (commands.Change item changes.Halted)
event_command (events.Running item) = Some (commands.Change item changes.Running)
event_command (events.Message item at level text) =
    Some (commands.Change item (changes.Message at level text))
event_command _ = None

-- a line of events as a command
abbrev pub event_of : Reader ℕ → Reader ℕ → Reader Command
event_of handle moment line = option_and_then event_command (read_line handle moment line)

-- the command of a line, by what it begins with, or else by the event that the line is
abbrev pub accepted : Reader ℕ → ℕ → Reader Command
accepted handle now line =
    option_map_or (named_add_of handle) (after_prefix (codes "add @") line)
    (option_map_or (begin_of handle) (after_prefix (codes "init ") line)
    (option_map_or size_of (after_prefix (codes "size ") line)
    (option_map_or print_of (after_prefix (codes "print ") line)
    (option_map_or (send_of Info handle now) (after_prefix (codes "info ") line)
    (option_map_or (send_of Success handle now) (after_prefix (codes "done ") line)
    (option_map_or (send_of Failure handle now) (after_prefix (codes "fail ") line)
    (event_of handle (moment_in now) line)))))))

-- a line that does nothing: it is empty, or begins with a `#`
abbrev pub is_comment : List ℕ → Bool
is_comment [] = true
is_comment (c ∷ rest) = nat_eq c 35

-- the command of a text: that which it is accepted as, or else its first mistake
abbrev pub text_command : Reader ℕ → ℕ → List ℕ → Command
text_command handle now line =
    unwrap_or (accepted handle now line) (commands.Fault (first_mistake handle line))

-- the command of a line of a script, given the handles of its items and the moment that is now
abbrev pub command_of : {Z S : Type 0} → HashMap (String Z) ℕ S → ℕ → List ℕ → Command
command_of names now line =
    if is_comment line then commands.Comment else text_command (handle_in names) now line
