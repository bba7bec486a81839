-- What lines for a dashboard are read as.
use Rattle.std.specs.Prelude.{ℕ, List, [], ◌∷◌, ◌++◌, ◌≡◌, Bool, true, false, map, Option, Some, None, String, bytes_eq, chars, codes, option_map, string_bytes, if◌then◌else◌}
use Rattle.std.specs.Global.{Global, Vec}
use Rattle.std.specs.Option.{option_map_or}
use Rattle.prodash_core.specs.declared.render.tui.event.Event.{Event}
use Rattle.prodash_core.specs.declared.render.tui.event.Event.TheVariants as events
use Rattle.prodash_core.specs.declared.render.tui.event.Interrupt.{Interrupt}
use Rattle.prodash_core.specs.declared.render.tui.event.Interrupt.TheVariants.{Instantly, Deferred}
use Rattle.prodash_core.specs.declared.render.tui.event.Key.{Key}
use Rattle.prodash_core.specs.declared.render.tui.event.KeyCode.{KeyCode}
use Rattle.prodash_core.specs.declared.render.tui.event.KeyCode.TheVariants.{Char as Character, Esc, Other}
use Rattle.prodash_core.specs.declared.render.tui.event.Line.{Line}
use Rattle.prodash_core.specs.declared.render.tui.event.Line.TheVariants.{Title, Text}
use Rattle.prodash_core.specs.declared.render.tui.event.Rect.{Rect}
use Rattle.prodash_script.specs.Reading.{cut_at_space, read_by, small_of, text_of, then_read}
use Rattle.prodash_script.specs.Words.{Reader, after_prefix, lookup}
use Rattle.prodash_script.specs.declared.dashboard_line.DashboardLine.{DashboardLine}
use Rattle.prodash_script.specs.declared.dashboard_line.DashboardLine.TheVariants as lines

-- the only one of a list's items, if it has exactly one
abbrev pub only : {A : Type 0} → List A → Option A
only [] = None
only (x ∷ []) = Some x
only (x ∷ (y ∷ ys)) = None

-- the character of a text that has exactly one
abbrev pub only_char_of : Reader ℕ
only_char_of text = only (chars text)

-- a key that was pressed, perhaps with the control key held down
abbrev pub pressed : Bool → KeyCode → Key
pressed control code = record { code = code; control = control; release = false }

-- the key of a character
abbrev pub char_key_of : Bool → Reader Key
char_key_of control name = option_map (λ c. pressed control (Character c)) (only_char_of name)

-- the keys that have a word for a name
abbrev pub named_keys : List (List ℕ × Key)
named_keys = (codes "esc", pressed false Esc) ∷ (codes "other", pressed false Other) ∷ []

-- a key of this name: a character after `ctrl-`, a word, or a character
abbrev pub key_of : Reader Key
key_of name =
    option_map_or (char_key_of true) (after_prefix (codes "ctrl-") name)
    (option_map_or Some (lookup named_keys name) (char_key_of false name))

-- `X Y COLUMNS ROWS` as a part of the terminal
abbrev pub window_of : Reader Rect
window_of words =
    option_map (λ a. record { x = a.0; y = a.1.0; width = a.1.1.0; height = a.1.1.1 })
    (then_read small_of (then_read small_of (then_read small_of small_of)) words)

-- when a request to interrupt stops the dashboard
abbrev pub interrupt_of : Reader Interrupt
interrupt_of = lookup ((codes "instantly", Instantly) ∷ (codes "deferred", Deferred) ∷ [])

-- what a line says, made of what a reader makes of its words
abbrev pub as_dashboard_line : {A : Type 0} → (A → DashboardLine) → Reader A → Reader DashboardLine
as_dashboard_line line read words = option_map line (read words)

-- the first words of the lines, and as what the words after them are read
abbrev pub dashboard_lines : List (List ℕ × Reader DashboardLine)
dashboard_lines =
    (codes "title", as_dashboard_line lines.SetTitle text_of)
    ∷ (codes "info_title", as_dashboard_line lines.AddTitle text_of)
    ∷ (codes "info_text", as_dashboard_line lines.AddText text_of)
    ∷ (codes "key", as_dashboard_line lines.Press key_of)
    ∷ (codes "window", as_dashboard_line lines.SetWindow window_of)
    ∷ (codes "interrupt", as_dashboard_line lines.SetInterruptMode interrupt_of)
    ∷ []

-- a line without a space
abbrev pub lone_line : Reader DashboardLine
lone_line word = if bytes_eq word (codes "info_clear") then Some lines.ClearInformation else None

-- what a line says, if it is one for a dashboard
abbrev pub read_dashboard_line : Reader DashboardLine
read_dashboard_line line =
    option_map_or (λ parts. read_by dashboard_lines parts.0 parts.1)
    (cut_at_space line) (lone_line line)

-- a line of the information, wherever its text is stored: whether it is a title, and the text
abbrev pub plain_line : Line → Bool × List ℕ
plain_line (Title text) = (true, string_bytes text)
plain_line (Text text) = (false, string_bytes text)

-- lines of the information, wherever their texts are stored
abbrev pub plain_lines : List Line → List (Bool × List ℕ)
plain_lines information = map plain_line information

-- the information after a line
abbrev pub information_after : DashboardLine → List (Bool × List ℕ) → List (Bool × List ℕ)
information_after (lines.AddTitle text) before = before ++ (true, text) ∷ []
information_after (lines.AddText text) before = before ++ (false, text) ∷ []
information_after lines.ClearInformation before = []
information_after line before = before

-- the information is afterwards what a line makes of it
abbrev pub ChangesInformation : DashboardLine → Vec Line → Vec Line → Type 0
ChangesInformation line old new =
    plain_lines new.items ≡ information_after line (plain_lines old.items)

-- an event that sets this information
abbrev pub SetsInformation : List (Bool × List ℕ) → Event → Type 0
SetsInformation information event =
    (copy : Vec Line) × (event ≡ events.SetInformation copy) × (plain_lines copy.items ≡ information)

-- an event that sets this title
abbrev pub SetsTitle : List ℕ → Event → Type 0
SetsTitle title event =
    (text : String Global) × (event ≡ events.SetTitle text) × (string_bytes text ≡ title)

-- the event of a line, after which the information is this
abbrev pub IsEventOf : DashboardLine → List (Bool × List ℕ) → Event → Type 0
IsEventOf (lines.Press key) information event = event ≡ events.Input key
IsEventOf (lines.SetTitle title) information event = SetsTitle title event
IsEventOf (lines.SetWindow area) information event = event ≡ events.SetWindowSize area
IsEventOf (lines.SetInterruptMode mode) information event = event ≡ events.SetInterruptMode mode
IsEventOf line information event = SetsInformation information event
