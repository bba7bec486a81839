-- The events as which lines are read.
use Rattle.std.specs.Prelude.{ℕ, ◌^◌, List, [], ◌∷◌, ◌++◌, Bool, true, false, length, codes, Option, Some, None, Result, IfOk, IfSome, String, string_bytes, ◌≡◌, option_map, option_and_then, nat_lt, nat_eq, bytes_eq, if◌then◌else◌}
use Rattle.std.specs.Option.{option_map_or}
use Rattle.std.specs.List.{position_or_len, before_first, after_first}
use Rattle.prodash_base.specs.declared.messages.MessageLevel.{MessageLevel}
use Rattle.prodash_base.specs.declared.messages.MessageLevel.TheVariants.{Info, Success, Failure}
use Rattle.prodash_base.specs.Rows.{unknown_id}
use Rattle.prodash_core.specs.declared.tree.event.Event.{Event}
use Rattle.prodash_core.specs.declared.tree.event.Event.TheVariants as events
use Rattle.prodash_script.specs.EventLines.{line_event}
use Rattle.prodash_script.specs.Units.{unit_in}
use Rattle.prodash_script.specs.Words.{Reader, number_of, lookup, ref_to, plain_unit}
use Rattle.prodash_script.specs.declared.event_line.EventLine.{EventLine}

-- an event, wherever its reason and the name of its unit are stored
abbrev pub plain : Event → Event
plain (events.Init item max unit) = events.Init item max (option_map plain_unit unit)
plain (events.Blocked item reason eta) = events.Blocked item (ref_to reason.now) eta
plain (events.Halted item reason eta) = events.Halted item (ref_to reason.now) eta
plain event = event

-- the text before the first space and the text after it, if there is a space
unfoldable pub cut_at_space : Reader (List ℕ × List ℕ)
cut_at_space text =
    if nat_lt (position_or_len (λ b. nat_eq b 32) text) (length text)
    then Some (before_first (λ b. nat_eq b 32) text, after_first (λ b. nat_eq b 32) text)
    else None

-- the value that is read before the first space, and the text after it
unfoldable pub first_of : {A : Type 0} → Reader A → Reader (A × List ℕ)
first_of read text =
    option_and_then (λ parts. option_map (λ x. (x, parts.1)) (read parts.0)) (cut_at_space text)

-- two values, of which one is read before the first space and the other after it
abbrev pub then_read : {A B : Type 0} → Reader A → Reader B → Reader (A × B)
then_read first second text =
    option_and_then (λ a. option_map (λ y. (a.0, y)) (second a.1)) (first_of first text)

-- any text, as it is
abbrev pub text_of : Reader (List ℕ)
text_of text = Some text

-- a bound: a number, or `-` for none
abbrev pub bound_of : Reader (Option ℕ)
bound_of word = if bytes_eq word (codes "-") then Some None else option_map Some (number_of word)

-- a number of 16 bits
abbrev pub small_of : Reader ℕ
small_of word =
    option_and_then (λ n. if nat_lt n (2 ^ 16) then Some n else None) (number_of word)

-- the event that is made of what a reader makes of words
abbrev pub as_event : {A : Type 0} → (A → Event) → Reader A → Reader Event
as_event event read words = option_map event (read words)

-- `H NAME` as an item that is added
abbrev pub add_of : Reader ℕ → Reader Event
add_of handle = as_event (λ a. events.AddChild a.0 a.1 unknown_id) (then_read handle text_of)

-- `H NAME` as the name of an item
abbrev pub name_of : Reader ℕ → Reader Event
name_of handle = as_event (λ a. events.SetName a.0 a.1) (then_read handle text_of)

-- `H AT TEXT` as a message of a severity
abbrev pub message_of : MessageLevel → Reader ℕ → Reader ℕ → Reader Event
message_of level handle moment =
    as_event (λ a. events.Message a.0 a.1.0 level a.1.1)
    (then_read handle (then_read moment text_of))

-- `H` as the end of an item
abbrev pub drop_of : Reader ℕ → Reader Event
drop_of handle = as_event events.Drop handle

-- `H MAX UNIT` as the begin of an item's progress
abbrev pub init_of : Reader ℕ → Reader Event
init_of handle =
    as_event (λ a. events.Init a.0 a.1.0 a.1.1)
    (then_read handle (then_read bound_of unit_in))

-- `H MAX` as the bound of an item
abbrev pub max_of : Reader ℕ → Reader Event
max_of handle = as_event (λ a. events.SetMax a.0 a.1) (then_read handle bound_of)

-- `H N` as the counter of an item
abbrev pub set_of : Reader ℕ → Reader Event
set_of handle = as_event (λ a. events.Set a.0 a.1) (then_read handle number_of)

-- `H N` as steps of an item
abbrev pub inc_of : Reader ℕ → Reader Event
inc_of handle = as_event (λ a. events.IncBy a.0 a.1) (then_read handle number_of)

-- `H` as an item that is blocked, with the reason of a line
abbrev pub blocked_of : Reader ℕ → Reader Event
blocked_of handle = as_event (λ item. events.Blocked item (ref_to (codes "replay")) None) handle

-- `H` as an item that is halted, with the reason of a line
abbrev pub halted_of : Reader ℕ → Reader Event
halted_of handle = as_event (λ item. events.Halted item (ref_to (codes "replay")) None) handle

-- `H` as an item that runs
abbrev pub running_of : Reader ℕ → Reader Event
running_of handle = as_event events.Running handle

-- `AT` as a tick whose rows are shown or hidden
abbrev pub tick_of : Bool → Reader ℕ → Reader Event
tick_of show moment = as_event (λ at. events.Tick at show) moment

-- `AT COLUMNS ROWS` as a resize
abbrev pub resize_of : Reader ℕ → Reader Event
resize_of moment =
    as_event (λ a. events.Resize a.0 true a.1.0 a.1.1)
    (then_read moment (then_read small_of small_of))

-- `AT` as a closing frame
abbrev pub quit_of : Reader ℕ → Reader Event
quit_of moment = as_event events.Quit moment

-- the first words of events with a name or a text, and as what the words after them are read
abbrev pub with_text : Reader ℕ → Reader ℕ → List (List ℕ × Reader Event)
with_text handle moment =
    (codes "add", add_of handle)
    ∷ (codes "name", name_of handle)
    ∷ (codes "info", message_of Info handle moment)
    ∷ (codes "done", message_of Success handle moment)
    ∷ (codes "fail", message_of Failure handle moment)
    ∷ (codes "init", init_of handle)
    ∷ []

-- the same of events without a text
abbrev pub without_text : Reader ℕ → Reader ℕ → List (List ℕ × Reader Event)
without_text handle moment =
    (codes "drop", drop_of handle)
    ∷ (codes "max", max_of handle)
    ∷ (codes "set", set_of handle)
    ∷ (codes "inc", inc_of handle)
    ∷ (codes "blocked", blocked_of handle)
    ∷ (codes "halted", halted_of handle)
    ∷ (codes "running", running_of handle)
    ∷ (codes "tick", tick_of true moment)
    ∷ (codes "hold", tick_of false moment)
    ∷ (codes "resize", resize_of moment)
    ∷ (codes "quit", quit_of moment)
    ∷ []

-- what a first word and the words after it are read as, by a table
abbrev pub read_by : {A : Type 0} → List (List ℕ × Reader A) → List ℕ → Reader A
read_by table word rest = option_and_then (λ read. read rest) (lookup table word)

-- how the words after the first are read as an event, by the first word
abbrev pub all_events : Reader ℕ → Reader ℕ → List (List ℕ × Reader Event)
all_events handle moment = with_text handle moment ++ without_text handle moment

-- the event of a line without a space
abbrev pub alone : Reader Event
alone line = if bytes_eq line (codes "droproot") then Some events.DropRoot else None

-- the event as which a line is read, if it is one, where handles and moments are named by words
abbrev pub read_line : Reader ℕ → Reader ℕ → Reader Event
read_line handle moment line =
    option_map_or (λ parts. read_by (all_events handle moment) parts.0 parts.1)
    (cut_at_space line) (alone line)

-- on success the event that was read, wherever its reason and the name of its unit are stored
abbrev pub ReadsEvent : {E : Type 0} → Result (Option Event) E → Option Event → Type 0
ReadsEvent result event = IfOk result (λ found. option_map plain found ≡ event)

-- on success a line that says the event that was read
abbrev pub Reads : {E : Type 0} → Result (Option EventLine) E → Option Event → Type 0
Reads result event = IfOk result (λ found. option_map line_event found ≡ event)

-- a text that is read as an event, where handles and moments are numbers
abbrev pub IsReadAs : Event → List ℕ → Type 0
IsReadAs event line = read_line number_of number_of line ≡ Some (plain event)

-- on success a text that is read as an event, if there is one
abbrev pub ReadsBack : {Z E : Type 0} → Result (Option (String Z)) E → Event → Type 0
ReadsBack result event =
    IfOk result (λ found. IfSome found (λ line. IsReadAs event (string_bytes line)))
