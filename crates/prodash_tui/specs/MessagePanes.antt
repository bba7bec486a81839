-- The messages pane of a dashboard.
use Rattle.std.specs.Prelude.{◌≡◌, ℕ, ◌+◌, ◌-◌, min, nat_eq, nat_lt, true, List, [], ◌∷◌, ◌++◌, length, map, take, codes, encode_utf8_all, Some, if◌then◌else◌}
use Rattle.std.specs.Fmt.{decimal}
use Rattle.prodash_base.specs.Moments.{time_text}
use Rattle.prodash_base.specs.Rings.{keep_last}
use Rattle.prodash_base.specs.declared.messages.Message.{Message}
use Rattle.prodash_base.specs.declared.messages.MessageLevel.{MessageLevel}
use Rattle.prodash_base.specs.declared.messages.MessageLevel.TheVariants.{Info, Failure, Success}
use Rattle.prodash_core.specs.declared.render.tui.event.Rect.{Rect}
use Rattle.prodash_line.specs.MessageLines.{greatest_width}
use Rattle.prodash_tui.specs.declared.style.Color.{Color}
use Rattle.prodash_tui.specs.declared.style.Color.TheVariants.{Black, Red, Green, White}
use Rattle.prodash_tui.specs.declared.style.Style.{Style}
use Rattle.prodash_tui.specs.Cells.{plain}
use Rattle.prodash_tui.specs.Grids.{Sheet, with_shortened}
use Rattle.prodash_tui.specs.Offsets.{sanitize_offset}
use Rattle.prodash_tui.specs.Panes.{bold, vertical_line, with_head, with_text_at_right}
use Rattle.prodash_tui.specs.Rects.{line_bound, offset_x}
use Rattle.prodash_tui.specs.Texts.{block_width}

-- a level as a word of four letters
abbrev pub level_text : MessageLevel → List ℕ
level_text Info = codes "info"
level_text Failure = codes "fail"
level_text Success = codes "done"

-- the colour behind that word
abbrev pub level_color : MessageLevel → Color
level_color Info = White
level_color Failure = Red
level_color Success = Green

-- the style of that word
abbrev pub level_style : MessageLevel → Style
level_style level = record { bold = true; foreground = Some Black; background = Some (level_color level) }

-- the arrow between an origin and a text
abbrev pub arrow : List ℕ
arrow = encode_utf8_all (codes "→")

-- where the text of a message is in its row, behind origins of this width
abbrev pub text_bound : Rect → ℕ → Rect
text_bound row width = offset_x (offset_x row 16) width

-- what is before the text of a message: the time, the level and the origin, which has so many columns
abbrev pub with_columns : Rect → ℕ → Message → Sheet → Sheet
with_columns row width m g =
    with_shortened (offset_x (offset_x row 14) width) plain arrow
    (with_shortened (offset_x row 14) plain m.origin
    (with_shortened (offset_x row 13) plain vertical_line
    (with_shortened (offset_x row 9) (level_style m.level) (level_text m.level)
    (with_shortened (offset_x row 8) plain vertical_line
    (with_shortened row plain (time_text m.time) g)))))

-- a message in its row; its text alone, if less than 30 columns are left for it
abbrev pub with_message : Rect → ℕ → Message → Sheet → Sheet
with_message row width m g =
    if nat_lt (text_bound row width).width 30 then with_shortened row plain m.message g
    else with_shortened (text_bound row width) plain m.message (with_columns row width m g)

-- messages, the newest one in the first row: below each are the older ones
abbrev pub with_messages : Rect → ℕ → List Message → Sheet → Sheet
with_messages area width [] g = g
with_messages area width (m ∷ newer) g = with_messages area width newer (with_message (line_bound area (length newer)) width m g)

-- the messages that are shown in so many rows, if so many of the newest ones are skipped
abbrev pub shown_messages : ℕ → ℕ → List Message → List Message
shown_messages skipped rows messages = keep_last rows (take (length messages - skipped) messages)

-- the greatest width of an origin
abbrev pub origin_width : List Message → ℕ
origin_width messages = greatest_width (map (λ m. block_width m.origin) messages)

-- how many messages are skipped, and how many more there are
abbrev pub hidden_text : ℕ → ℕ → List ℕ
hidden_text skipped more = encode_utf8_all (codes "… ") ++ (decimal skipped ++ (codes " skipped and " ++ (decimal more ++ codes " more")))

-- the keys that scroll messages
abbrev pub scroll_keys : List ℕ
scroll_keys = encode_utf8_all (codes " ⇊ = D|↓ = J|⇈ = U|↑ = K ┘")

-- the line below a list that isn't shown whole: what is hidden, and the keys that scroll it
abbrev pub with_hidden : Rect → ℕ → ℕ → Sheet → Sheet
with_hidden area skipped more g =
    if nat_eq (skipped + more) 0 then g
    else with_text_at_right area scroll_keys (with_shortened (offset_x area 1) bold (hidden_text skipped more) g)

-- where the messages are: below the pane's first row
abbrev pub messages_bound : Rect → Rect
messages_bound area = record area { y = min (area.y + 1) 65535; height = area.height - 1 }

-- how many messages a pane skips
abbrev pub skipped_messages : ℕ → Rect → List Message → ℕ
skipped_messages offset area messages = sanitize_offset offset (length messages) (area.height - 1)

-- the messages in their rows, and the line below them
abbrev pub with_list : Rect → Rect → ℕ → List Message → Sheet → Sheet
with_list area overflow skipped messages g =
    let shown = shown_messages skipped area.height messages in
    with_hidden overflow skipped (length messages - (skipped + area.height)) (with_messages area (origin_width shown) shown g)

-- the keys that hide and maximize the pane
abbrev pub message_keys : List ℕ
message_keys = encode_utf8_all (codes " ⨯ = `| ▢ = ~ ")

-- the messages pane: its title and its keys, and the messages
abbrev pub with_message_pane : List Message → Rect → Rect → ℕ → Sheet → Sheet
with_message_pane messages area overflow offset g =
    with_list (messages_bound area) overflow (skipped_messages offset area messages) messages (with_head area (codes "Messages") message_keys g)

-- the pane of these messages is drawn
abbrev pub DrawsMessages : List Message → Rect → Rect → ℕ → Sheet → Sheet → Type 0
DrawsMessages messages area overflow offset old new = new ≡ with_message_pane messages area overflow offset old
