-- The information pane of a dashboard.
use Rattle.std.specs.Prelude.{ℕ, ◌+◌, ◌-◌, min, nat_lt, List, [], ◌∷◌, codes, encode_utf8_all, string_bytes, if◌then◌else◌}
use Rattle.prodash_core.specs.declared.render.tui.event.Line.{Line}
use Rattle.prodash_core.specs.declared.render.tui.event.Line.TheVariants.{Title, Text}
use Rattle.prodash_core.specs.declared.render.tui.event.Rect.{Rect}
use Rattle.prodash_tui.specs.Cells.{plain}
use Rattle.prodash_tui.specs.Grids.{Sheet, with_filling, with_shortened}
use Rattle.prodash_tui.specs.Panes.{bold, with_head}
use Rattle.prodash_tui.specs.Rects.{bottom_of, line_bound, offset_x}
use Rattle.prodash_tui.specs.Texts.{block_width}

-- a line that others follow: a title in bold with a line behind it, or a text one column to the right
abbrev pub with_line : Rect → Line → Sheet → Sheet
with_line row (Title title) g =
    with_filling (offset_x (offset_x row (block_width (string_bytes title))) 1) plain 0x2500 (with_shortened row bold (string_bytes title) g)
with_line row (Text text) g = with_shortened (offset_x row 1) plain (string_bytes text) g

-- the last line: a text in bold; a title that nothing follows isn't drawn
abbrev pub with_last_line : Rect → Line → Sheet → Sheet
with_last_line row (Title title) g = g
with_last_line row (Text text) g = with_shortened (offset_x row 1) bold (string_bytes text) g

-- the blank rows at a line: one for a title
abbrev pub blank_row_of : Line → ℕ
blank_row_of (Title title) = 1
blank_row_of (Text text) = 0

-- how far the next line is below a line: a title has a blank row below it, and one above it if it isn't the first line
abbrev pub rows_to : Line → Line → ℕ
rows_to line next = 1 + blank_row_of line + blank_row_of next

-- lines from this row on, as many as are inside the rectangle
abbrev pub with_lines : Rect → ℕ → List Line → Sheet → Sheet
with_lines area row [] g = g
with_lines area row (line ∷ []) g = if nat_lt row area.height then with_last_line (line_bound area row) line g else g
with_lines area row (line ∷ next ∷ lines) g =
    if nat_lt row area.height then with_lines area (row + rows_to line next) (next ∷ lines) (with_line (line_bound area row) line g) else g

-- where the lines are: between the pane's first row and its last, without its last column
abbrev pub lines_bound : Rect → Rect
lines_bound area = record area { y = min (area.y + 1) 65535; width = area.width - 1; height = area.height - 2 }

-- the keys that hide and maximize the pane
abbrev pub information_keys : List ℕ
information_keys = encode_utf8_all (codes " ⨯ = [ | ▢ = { ")

-- the information pane: its title and its keys, the lines, and a line below them
abbrev pub with_information : List Line → Rect → Sheet → Sheet
with_information lines area g =
    with_lines (lines_bound area) 0 lines (with_head area (codes "Information") information_keys (with_filling (bottom_of area) plain 0x2500 g))
