-- Where the panes of a dashboard are.
use Rattle.std.specs.Prelude.{ℕ, ◌+◌, ◌-◌, ◌*◌, ◌/◌, min, Bool, ◌||◌, nat_eq, nat_lt, List, [], ◌∷◌, map, string_bytes, Option, Some, None, if◌then◌else◌}
use Rattle.prodash_core.specs.declared.render.tui.event.Line.{Line}
use Rattle.prodash_core.specs.declared.render.tui.event.Line.TheVariants.{Title, Text}
use Rattle.prodash_core.specs.declared.render.tui.event.Rect.{Rect}
use Rattle.prodash_line.specs.MessageLines.{greatest_width}
use Rattle.prodash_tui.specs.Rects.{snap_to_right}
use Rattle.prodash_tui.specs.Texts.{block_width}

-- the text of a line
abbrev pub line_text : Line → List ℕ
line_text (Title text) = string_bytes text
line_text (Text text) = string_bytes text

-- the greatest width of a line, and a column on each side
abbrev pub wanted_width : List Line → ℕ
wanted_width lines = greatest_width (map (λ line. block_width (line_text line)) lines) + 2

-- how many columns of so many the information takes at most: a third, or all but eight if it is maximized
abbrev pub information_room : Bool → ℕ → ℕ
information_room maximize width = if maximize then width - 8 else width / 3

-- how many columns the information takes if it wants so many
abbrev pub information_width : ℕ → Bool → ℕ → ℕ
information_width wanted maximize width = min (information_room maximize width) wanted

-- a rectangle without its last columns, and these
abbrev pub split_right : Rect → ℕ → Rect × Option Rect
split_right area width = (record area { width = area.width - width }, Some (snap_to_right area width))

-- what is left of the window, and where the information is; it isn't shown if there is none, and if it has less than a third of the columns that it wants
abbrev pub compute_info_bound : Rect → List Line → Bool → Rect × Option Rect
compute_info_bound area [] maximize = (area, None)
compute_info_bound area (line ∷ lines) maximize =
    let wanted = wanted_width (line ∷ lines) in
    let width = information_width wanted maximize area.width in
    if nat_lt width (wanted / 3) then (area, None) else split_right area width

-- how many rows of so many the messages take at most, rounded down: a quarter, or nine tenths if they are maximized
abbrev pub messages_room : Bool → ℕ → ℕ
messages_room maximize height = if maximize then height * 9 / 10 else height / 4

-- a rectangle without its last rows, and these
abbrev pub split_below : Rect → ℕ → Rect × Option Rect
split_below area height = (
  record area { height = area.height - height },
  Some (record area { y = min (area.y + (area.height - height)) 65535; height = height }),
)

-- where the tasks are inside the window, and where so many messages are: a row for each below a title, if there is room; they aren't shown if there are none,
-- and if there is no room for one
abbrev pub compute_pane_bounds : ℕ → Rect → Bool → Rect × Option Rect
compute_pane_bounds messages inner maximize =
    let room = messages_room maximize inner.height in
    if nat_eq messages 0 || nat_lt room 2 then (inner, None) else split_below inner (min room (messages + 1))
