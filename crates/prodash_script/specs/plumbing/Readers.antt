-- What the readers of the parts of a line return.
use Rattle.std.specs.Prelude.{◌≡◌, ℕ, List, Option, option_map}
use Rattle.std.specs.Borrow.{Bor}
use Rattle.prodash_base.specs.declared.unit.kind.Kind.{Kind}
use Rattle.prodash_core.specs.declared.tree.event.Event.{Event}
use Rattle.prodash_script.specs.EventLines.{line_event}
use Rattle.prodash_script.specs.Reading.{read_by, without_text}
use Rattle.prodash_script.specs.Units.{kind_in}
use Rattle.prodash_script.specs.Words.{Reader, plain_kind}
use Rattle.prodash_script.specs.declared.event_line.EventLine.{EventLine}

-- a text, wherever it is stored
abbrev pub plain_text : Option (Bor (List ℕ)) → Option (List ℕ)
plain_text text = option_map (λ it. it.now) text

-- a value and the text after it, wherever that is stored
abbrev pub plain_rest : {A : Type 0} → A × Bor (List ℕ) → A × List ℕ
plain_rest parts = (parts.0, parts.1.now)

-- two texts, wherever they are stored
abbrev pub plain_pair : Bor (List ℕ) × Bor (List ℕ) → List ℕ × List ℕ
plain_pair parts = (parts.0.now, parts.1.now)

-- a text and the one after it, if there is one, wherever they are stored
abbrev pub plain_split : Bor (List ℕ) × Option (Bor (List ℕ)) → List ℕ × Option (List ℕ)
plain_split parts = (parts.0.now, plain_text parts.1)

-- a line that says an event, if one was read
abbrev pub Says : Option EventLine → Option Event → Type 0
Says found event = option_map line_event found ≡ event

-- the event of a first word and the words after it, among events without a text
abbrev pub event_by : Reader ℕ → Reader ℕ → List ℕ → Reader Event
event_by handle moment word = read_by (without_text handle moment) word

-- a kind of unit that a name says
abbrev pub IsKindNamed : List ℕ → Kind → Type 0
IsKindNamed name kind = plain_kind kind ≡ kind_in name
