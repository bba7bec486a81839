-- The events that lines of events say.
use Rattle.std.specs.Prelude.{ℕ, codes, None, true, option_map}
use Rattle.prodash_base.specs.Rows.{unknown_id}
use Rattle.prodash_core.specs.declared.tree.event.Event.{Event}
use Rattle.prodash_core.specs.declared.tree.event.Event.TheVariants as events
use Rattle.prodash_script.specs.Words.{plain_unit, ref_to}
use Rattle.prodash_script.specs.declared.change.Change.{Change}
use Rattle.prodash_script.specs.declared.change.Change.TheVariants as changes
use Rattle.prodash_script.specs.declared.event_line.EventLine.{EventLine}
use Rattle.prodash_script.specs.declared.event_line.EventLine.TheVariants as lines

-- the event that makes a change of an item, wherever the name of its unit is stored
abbrev pub change_event : ℕ → Change → Event
change_event item (changes.Init max unit) = events.Init item max (option_map plain_unit unit)
change_event item (changes.SetName name) = events.SetName item name
change_event item (changes.SetMax max) = events.SetMax item max
change_event item (changes.Set step) = events.Set item step
change_event item (changes.IncBy step) = events.IncBy item step
change_event item changes.Blocked = events.Blocked item (ref_to (codes "replay")) None
change_event item changes.Halted = events.Halted item (ref_to (codes "replay")) None
change_event item changes.Running = events.Running item
change_event item (changes.Message at level text) = events.Message item at level text

-- the event that a line says, wherever the name of its unit is stored
abbrev pub line_event : EventLine → Event
line_event (lines.Add parent name) = events.AddChild parent name unknown_id
line_event (lines.Drop item) = events.Drop item
line_event lines.DropRoot = events.DropRoot
line_event (lines.Change item change) = change_event item change
line_event (lines.Tick at show) = events.Tick at show
line_event (lines.Resize at columns rows) = events.Resize at true columns rows
line_event (lines.Quit at) = events.Quit at
