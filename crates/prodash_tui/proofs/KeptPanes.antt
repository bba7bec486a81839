-- A property of grids that each drawing word keeps is kept by the panes of a dashboard.
use Rattle.std.proofs.Common.{ℕ, ◌+◌, ◌-◌, Bool, true, false, cond, List, [], ◌∷◌, length}
use Rattle.std.specs.Prelude.{codes, nat_lt, nat_eq, string_bytes, Option, Some, None}
use Rattle.prodash_base.specs.Moments.{time_text}
use Rattle.prodash_base.specs.declared.messages.Message.{Message}
use Rattle.prodash_base.specs.Rows.{rows_of}
use Rattle.prodash_core.specs.declared.render.tui.event.Line.{Line}
use Rattle.prodash_core.specs.declared.render.tui.event.Line.TheVariants.{Title, Text}
use Rattle.prodash_core.specs.declared.render.tui.event.Rect.{Rect}
use Rattle.prodash_core.specs.declared.render.tui.state.State.{State}
use Rattle.prodash_tui.specs.declared.draw.bounds.Bounds.{Bounds}
use Rattle.prodash_tui.specs.declared.draw.input.Input.{Input}
use Rattle.prodash_tui.specs.declared.style.Color.{Color}
use Rattle.prodash_tui.specs.declared.style.Style.{Style}
use Rattle.prodash_tui.specs.Cells.{plain}
use Rattle.prodash_tui.specs.Dashboards.{bounds_of, dashboard, headline_bound, is_small, narrower, with_information_in, with_messages_in, with_panes, with_window}
use Rattle.prodash_tui.specs.Grids.{Sheet, with_background, with_border, with_filling, with_fillings, with_shortened, with_text}
use Rattle.prodash_tui.specs.Headlines.{headline_text, with_headline}
use Rattle.prodash_tui.specs.InformationPanes.{information_keys, lines_bound, rows_to, with_information, with_last_line, with_line, with_lines}
use Rattle.prodash_tui.specs.MessagePanes.{arrow, hidden_text, level_style, level_text, message_keys, messages_bound, origin_width, scroll_keys, shown_messages, skipped_messages, text_bound, with_columns, with_hidden, with_message, with_message_pane, with_messages}
use Rattle.prodash_tui.specs.Panes.{bold, vertical_line, with_head, with_text_at_right}
use Rattle.prodash_tui.specs.Texts.{block_width}
use Rattle.prodash_tui.specs.Rects.{border, bottom_of, line_bound, offset_x, snap_to_right, top_of}

-- a property of grids that each drawing word keeps
pub record Words (P : Sheet → Type 0) : Type 0 where
  pub text : (area : Rect) (style : Style) (text : List ℕ) (g : Sheet) → P g → P (with_text area style text g)
  pub shortened : (area : Rect) (style : Style) (text : List ℕ) (g : Sheet) → P g → P (with_shortened area style text g)
  pub filling : (area : Rect) (style : Style) (c : ℕ) (g : Sheet) → P g → P (with_filling area style c g)
  pub background : (area : Rect) (color : Color) (g : Sheet) → P g → P (with_background area color g)

-- ---- a border

kept_fillings : {P : Sheet → Type 0} (k : Words P) (style : Style) (fs : List (Rect × ℕ)) (g : Sheet) → P g → P (with_fillings style fs g)
kept_fillings k style [] g h = h
kept_fillings k style (f ∷ fs) g h = kept_fillings k style fs (with_filling f.0 style f.1 g) (k.filling f.0 style f.1 g h)

pub kept_border : {P : Sheet → Type 0} (k : Words P) (area : Rect) (style : Style) (g : Sheet) → P g → P (with_border area style g)
kept_border k area style g h = kept_fillings k style (border area) g h

-- ---- what panes have in common

kept_at_right : {P : Sheet → Type 0} (k : Words P) (area : Rect) (text : List ℕ) (g : Sheet) → P g → P (with_text_at_right area text g)
kept_at_right k area text g h = k.shortened (snap_to_right area (block_width text)) bold text g h

kept_head : {P : Sheet → Type 0} (k : Words P) (area : Rect) (title keys : List ℕ) (g : Sheet) → P g → P (with_head area title keys g)
kept_head k area title keys g h =
    let line = with_filling (top_of area) plain 0x2500 g in
    kept_at_right k area keys (with_text area bold title line) (k.text area bold title line (k.filling (top_of area) plain 0x2500 g h))

-- a choice of two grids
pub kept_choice : {P : Sheet → Type 0} (k : Words P) (t : Bool) (g h : Sheet) → P g → P h → P (cond t g h)
kept_choice k true g h p q = p
kept_choice k false g h p q = q

-- ---- information

kept_line : {P : Sheet → Type 0} (k : Words P) (row : Rect) (line : Line) (g : Sheet) → P g → P (with_line row line g)
kept_line k row (Title title) g h =
    let text = string_bytes title in
    k.filling (offset_x (offset_x row (block_width text)) 1) plain 0x2500 (with_shortened row bold text g) (k.shortened row bold text g h)
kept_line k row (Text text) g h = k.shortened (offset_x row 1) plain (string_bytes text) g h

kept_last_line : {P : Sheet → Type 0} (k : Words P) (row : Rect) (line : Line) (g : Sheet) → P g → P (with_last_line row line g)
kept_last_line k row (Title title) g h = h
kept_last_line k row (Text text) g h = k.shortened (offset_x row 1) bold (string_bytes text) g h

kept_lines : {P : Sheet → Type 0} (k : Words P) (area : Rect) (row : ℕ) (lines : List Line) (g : Sheet) → P g → P (with_lines area row lines g)
kept_lines k area row [] g h = h
kept_lines k area row (line ∷ []) g h =
    kept_choice k (nat_lt row area.height) (with_last_line (line_bound area row) line g) g (kept_last_line k (line_bound area row) line g h) h
kept_lines k area row (line ∷ next ∷ lines) g h =
    let drawn = with_line (line_bound area row) line g in
    kept_choice k (nat_lt row area.height) (with_lines area (row + rows_to line next) (next ∷ lines) drawn) g
    (kept_lines k area (row + rows_to line next) (next ∷ lines) drawn (kept_line k (line_bound area row) line g h)) h

pub kept_information : {P : Sheet → Type 0} (k : Words P) (lines : List Line) (area : Rect) (g : Sheet) → P g → P (with_information lines area g)
kept_information k lines area g h =
    let line = with_filling (bottom_of area) plain 0x2500 g in
    let head = with_head area (codes "Information") information_keys line in
    kept_lines k (lines_bound area) 0 lines head (kept_head k area (codes "Information") information_keys line (k.filling (bottom_of area) plain 0x2500 g h))

-- ---- messages

kept_columns : {P : Sheet → Type 0} (k : Words P) (row : Rect) (width : ℕ) (m : Message) (g : Sheet) → P g → P (with_columns row width m g)
kept_columns k row width m g h =
    let time = with_shortened row plain (time_text m.time) g in
    let behind_time = with_shortened (offset_x row 8) plain vertical_line time in
    let level = with_shortened (offset_x row 9) (level_style m.level) (level_text m.level) behind_time in
    let behind_level = with_shortened (offset_x row 13) plain vertical_line level in
    let origin = with_shortened (offset_x row 14) plain m.origin behind_level in
    k.shortened (offset_x (offset_x row 14) width) plain arrow origin
    (k.shortened (offset_x row 14) plain m.origin behind_level
    (k.shortened (offset_x row 13) plain vertical_line level
    (k.shortened (offset_x row 9) (level_style m.level) (level_text m.level) behind_time
    (k.shortened (offset_x row 8) plain vertical_line time
    (k.shortened row plain (time_text m.time) g h)))))

kept_message : {P : Sheet → Type 0} (k : Words P) (row : Rect) (width : ℕ) (m : Message) (g : Sheet) → P g → P (with_message row width m g)
kept_message k row width m g h =
    kept_choice k (nat_lt (text_bound row width).width 30) (with_shortened row plain m.message g) (with_shortened (text_bound row width) plain m.message (with_columns row width m g))
    (k.shortened row plain m.message g h) (k.shortened (text_bound row width) plain m.message (with_columns row width m g) (kept_columns k row width m g h))

kept_messages : {P : Sheet → Type 0} (k : Words P) (area : Rect) (width : ℕ) (ms : List Message) (g : Sheet) → P g → P (with_messages area width ms g)
kept_messages k area width [] g h = h
kept_messages k area width (m ∷ newer) g h =
    let row = line_bound area (length newer) in
    kept_messages k area width newer (with_message row width m g) (kept_message k row width m g h)

kept_hidden : {P : Sheet → Type 0} (k : Words P) (area : Rect) (skipped more : ℕ) (g : Sheet) → P g → P (with_hidden area skipped more g)
kept_hidden k area skipped more g h =
    let said = with_shortened (offset_x area 1) bold (hidden_text skipped more) g in
    kept_choice k (nat_eq (skipped + more) 0) g (with_text_at_right area scroll_keys said) h
    (kept_at_right k area scroll_keys said (k.shortened (offset_x area 1) bold (hidden_text skipped more) g h))

pub kept_message_pane : {P : Sheet → Type 0} (k : Words P) (ms : List Message) (area overflow : Rect) (offset : ℕ) (g : Sheet) → P g → P (with_message_pane ms area overflow offset g)
kept_message_pane k ms area overflow offset g h =
    let inner = messages_bound area in
    let skipped = skipped_messages offset area ms in
    let shown = shown_messages skipped inner.height ms in
    let head = with_head area (codes "Messages") message_keys g in
    kept_hidden k overflow skipped (length ms - (skipped + inner.height)) (with_messages inner (origin_width shown) shown head)
    (kept_messages k inner (origin_width shown) shown head (kept_head k area (codes "Messages") message_keys g h))

-- ---- the dashboard

pub kept_headline : {P : Sheet → Type 0} (k : Words P) (area : Rect) (text : List ℕ) (g : Sheet) → P g → P (with_headline area text g)
kept_headline k area text g h = k.shortened (snap_to_right area (block_width text + 1)) bold text g h

kept_messages_in : {P : Sheet → Type 0} (k : Words P) (area : Option Rect) (window : Rect) (offset : ℕ) (ms : List Message) (g : Sheet) → P g → P (with_messages_in area window offset ms g)
kept_messages_in k None window offset ms g h = h
kept_messages_in k (Some area) window offset ms g h = kept_message_pane k ms area (bottom_of window) offset g h

kept_information_in : {P : Sheet → Type 0} (k : Words P) (area : Option Rect) (lines : List Line) (g : Sheet) → P g → P (with_information_in area lines g)
kept_information_in k None lines g h = h
kept_information_in k (Some area) lines g h = kept_information k lines area g h

kept_panes : {P : Sheet → Type 0} (k : Words P) (tasks : Rect → Sheet → Sheet) → ((area : Rect) (g : Sheet) → P g → P (tasks area g)) → (s : State) (input : Input) (b : Bounds) (g : Sheet) → P g → P (with_panes tasks s input b g)
kept_panes k tasks keeps s input b g h =
    let title = string_bytes s.title in
    let text = headline_text s.interrupt_mode input.nanoseconds_per_frame input.time.now (rows_of input.rows.now) in
    let headed = with_headline (headline_bound b.window title) text g in
    let listed = with_messages_in b.messages b.window s.message_offset input.messages.now (tasks b.tasks headed) in
    kept_information_in k b.information s.information.items listed
    (kept_messages_in k b.messages b.window s.message_offset input.messages.now (tasks b.tasks headed)
    (keeps b.tasks headed (kept_headline k (headline_bound b.window title) text g h)))

pub kept_dashboard : {P : Sheet → Type 0} (k : Words P) (tasks : Rect → Sheet → Sheet) → ((area : Rect) (g : Sheet) → P g → P (tasks area g)) → (s : State) (input : Input) (area : Rect) (g : Sheet) → P g → P (dashboard tasks s input area g)
kept_dashboard k tasks keeps s input area g h =
    let b = bounds_of s (length input.messages.now) area in
    let window = with_window b.window (string_bytes s.title) g in
    let drawn = k.text (narrower (offset_x b.window 1)) bold (string_bytes s.title) (with_border b.window plain g) (kept_border k b.window plain g h) in
    kept_choice k (is_small b.window) window (with_panes tasks s input b window) drawn (kept_panes k tasks keeps s input b window drawn)
