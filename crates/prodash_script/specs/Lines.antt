-- The lines of events.
use Rattle.std.specs.Prelude.{◌≡◌, ℕ, List, ◌++◌, Bool, true, false, not, codes, string_bytes, Option, Some, None, MatchOption, Result, String, IsTrue, IfOk}
use Rattle.std.specs.Fmt.{decimal}
use Rattle.prodash_base.specs.declared.messages.MessageLevel.{MessageLevel}
use Rattle.prodash_base.specs.declared.messages.MessageLevel.TheVariants.{Info, Success, Failure}
use Rattle.prodash_base.specs.Rows.{unknown_id}
use Rattle.prodash_core.specs.declared.tree.event.Event.{Event}
use Rattle.prodash_core.specs.declared.tree.event.Event.TheVariants.{AddChild, Drop, Init, SetName, SetMax, Set, IncBy, Blocked, Halted, Running, Message, DropRoot, Tick, Resize, Quit}
use Rattle.prodash_script.specs.Streams.{has_line_feed}
use Rattle.prodash_script.specs.Units.{NamesUnit}

-- two texts with a space between them
abbrev pub spaced : List ℕ → List ℕ → List ℕ
spaced before after = before ++ codes " " ++ after

-- a word and a number
abbrev pub word_line : List ℕ → ℕ → List ℕ
word_line word n = spaced word (decimal n)

-- a word, a number and a text
abbrev pub text_line : List ℕ → ℕ → List ℕ → List ℕ
text_line word n text = spaced word (spaced (decimal n) text)

-- a bound, or `-` for none
abbrev pub bound_word : Option ℕ → List ℕ
bound_word None = codes "-"
bound_word (Some n) = decimal n

-- the word of a message's severity
abbrev pub level_word : MessageLevel → List ℕ
level_word Info = codes "info"
level_word Success = codes "done"
level_word Failure = codes "fail"

-- the word of a tick whose rows are shown or hidden
abbrev pub tick_word : Bool → List ℕ
tick_word true = codes "tick"
tick_word false = codes "hold"

-- whether a text has no line feed
abbrev pub is_one_line : List ℕ → Bool
is_one_line text = not (has_line_feed text)

-- a text without a line feed
abbrev pub IsOneLine : List ℕ → Type 0
IsOneLine text = IsTrue (is_one_line text)

-- the line of an event, which says all of it; of some events there is none
abbrev pub IsLineOf : Event → List ℕ → Type 0
IsLineOf (AddChild parent name id) line =
    (line ≡ text_line (codes "add") parent name) × IsOneLine name × (id ≡ unknown_id)
IsLineOf (Drop item) line = line ≡ word_line (codes "drop") item
IsLineOf (Init item max unit) line = (word : List ℕ)
    × (line ≡ text_line (codes "init") item (spaced (bound_word max) word)) × NamesUnit unit word
IsLineOf (SetName item name) line =
    (line ≡ text_line (codes "name") item name) × IsOneLine name
IsLineOf (SetMax item max) line = line ≡ text_line (codes "max") item (bound_word max)
IsLineOf (Set item step) line = line ≡ text_line (codes "set") item (decimal step)
IsLineOf (IncBy item step) line = line ≡ text_line (codes "inc") item (decimal step)
IsLineOf (Blocked item reason eta) line =
    (line ≡ word_line (codes "blocked") item) × (reason.now ≡ codes "replay") × (eta ≡ None)
IsLineOf (Halted item reason eta) line =
    (line ≡ word_line (codes "halted") item) × (reason.now ≡ codes "replay") × (eta ≡ None)
IsLineOf (Running item) line = line ≡ word_line (codes "running") item
IsLineOf (Message item at level text) line =
    (line ≡ text_line (level_word level) item (spaced (decimal at) text)) × IsOneLine text
IsLineOf DropRoot line = line ≡ codes "droproot"
IsLineOf (Tick at show) line = line ≡ word_line (tick_word show) at
IsLineOf (Resize at show columns rows) line =
    (line ≡ text_line (codes "resize") at (spaced (decimal columns) (decimal rows)))
    × (show ≡ true)
IsLineOf (Quit at) line = line ≡ word_line (codes "quit") at
IsLineOf _ line = ⊥

-- on success the line with a property, or none exactly if no text has it
abbrev pub GivesLine : {Z E : Type 0} → Result (Option (String Z)) E → (List ℕ → Type 0) → Type 0
GivesLine result P = IfOk result (λ found.
    MatchOption found ((line : List ℕ) → ¬ P line) (λ line. P (string_bytes line)))
