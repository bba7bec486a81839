-- The panes of a dashboard, computed.
use Rattle.std.proofs.Common.{◌≡◌, ℕ, List, [], ◌∷◌, ◌++◌, map, refl}
use Rattle.std.specs.Prelude.{true, false, codes, encode_utf8_all, String, None, Some}
use Rattle.std.specs.Fmt.{digits}
use Rattle.std.specs.Global.{Global}
use Rattle.unicode_width.proofs.Computing.{unicode_width}
use Rattle.prodash_base.specs.Numerals.{last_digits}
use Rattle.prodash_base.specs.declared.messages.Message.{Message}
use Rattle.prodash_base.specs.declared.messages.MessageLevel.TheVariants.{Failure}
use Rattle.prodash_base.specs.Rows.{PathRow, Phase, Blocked, Halted, Running, unknown_id}
use Rattle.prodash_core.specs.declared.render.tui.event.Line.TheVariants.{Title, Text}
use Rattle.prodash_core.specs.declared.render.tui.event.Rect.{Rect}
use Rattle.prodash_core.specs.declared.render.tui.state.InterruptMode.TheVariants.{Deferred}
use Rattle.prodash_tui.specs.declared.cell.Cell.{Cell}
use Rattle.prodash_tui.specs.declared.style.Style.{Style}
use Rattle.prodash_tui.specs.Cells.{blank_cells, cell_of, plain}
use Rattle.prodash_tui.specs.Dashboards.{headline_bound, is_small, with_window}
use Rattle.prodash_tui.specs.Grids.{Sheet, blank_sheet}
use Rattle.prodash_tui.specs.Headlines.{counts_text, headline_text, in_three, interval_text}
use Rattle.prodash_tui.specs.InformationPanes.{information_keys, with_last_line, with_line, with_lines}
use Rattle.prodash_tui.specs.MessagePanes.{hidden_text, level_style, shown_messages, with_hidden, with_message, with_messages}
use Rattle.prodash_tui.specs.PaneBounds.{compute_pane_bounds, information_width, split_right}
use Rattle.prodash_tui.specs.Panes.{bold, with_head}
use Rattle.prodash_tui.specs.Rects.{line_bound}

abbrev rect : ℕ → ℕ → ℕ → ℕ → Rect
rect x y width height = record { x = x; y = y; width = width; height = height }

-- the cells of a text in a style, one for each character
abbrev cells : Style → List ℕ → List Cell
cells style text = map (cell_of style) text

-- ---- the first row

-- a line between the title and the keys
pub head : (with_head (rect 0 0 30 2) (codes "Information") information_keys (blank_sheet 30 1)).rows
    ≡ (cells bold (codes "Information") ++ (cells plain (codes "────") ++ cells bold (codes " ⨯ = [ | ▢ = { "))) ∷ []
unfolding unicode_width lib.Utf8.encode
head = refl

-- ---- information

-- a title has a blank row below it, and one above it
pub lines_placed : (t u a b c : String Global) (g : Sheet)
    → with_lines (rect 0 0 9 8) 0 (Title t ∷ Text a ∷ Title u ∷ Text b ∷ Text c ∷ []) g
    ≡ with_last_line (line_bound (rect 0 0 9 8) 7) (Text c)
    (with_line (line_bound (rect 0 0 9 8) 6) (Text b)
    (with_line (line_bound (rect 0 0 9 8) 4) (Title u)
    (with_line (line_bound (rect 0 0 9 8) 2) (Text a)
    (with_line (line_bound (rect 0 0 9 8) 0) (Title t) g))))
lines_placed t u a b c g = refl

-- what doesn't fit is left out
pub lines_cut : (t a b : String Global) (g : Sheet) → with_lines (rect 0 0 9 2) 0 (Title t ∷ Text a ∷ Text b ∷ []) g ≡ with_line (line_bound (rect 0 0 9 2) 0) (Title t) g
lines_cut t a b g = refl

-- ---- messages

abbrev message : ℕ → List ℕ → List ℕ → Message
message at origin text = record { time = at; level = Failure; origin = origin; message = text }

-- of five messages two are skipped, and two are shown
pub shown : (a b c d e : Message) → shown_messages 2 2 (a ∷ b ∷ c ∷ d ∷ e ∷ []) ≡ b ∷ c ∷ []
shown a b c d e = refl

-- the newest one is in the first row
pub newest_first : (a b : Message) (g : Sheet) → with_messages (rect 1 5 60 2) 3 (a ∷ b ∷ []) g
    ≡ with_message (rect 1 5 60 1) 3 b (with_message (rect 1 6 60 1) 3 a g)
newest_first a b g = refl

-- a message with all its columns, of which 30 are left for the text
pub whole_message : (with_message (rect 0 0 48 1) 2 (message 3661000000000 (codes "a") (codes "text")) (blank_sheet 48 1)).rows
    ≡ (cells plain (codes "01:01:01│") ++ (cells (level_style Failure) (codes "fail") ++ (cells plain (codes "│a → text") ++ blank_cells 26))) ∷ []
unfolding unicode_width lib.Utf8.encode last_digits
whole_message = refl

-- one column less leaves its text alone
pub bare_message : (with_message (rect 0 0 47 1) 2 (message 3661000000000 (codes "a") (codes "text")) (blank_sheet 47 1)).rows
    ≡ (cells plain (codes "text") ++ blank_cells 43) ∷ []
unfolding unicode_width lib.Utf8.encode
bare_message = refl

-- nothing is hidden
pub none_hidden : (area : Rect) (g : Sheet) → with_hidden area 0 0 g ≡ g
none_hidden area g = refl

pub some_hidden : hidden_text 3 12 ≡ encode_utf8_all (codes "… 3 skipped and 12 more")
unfolding lib.Utf8.encode digits
some_hidden = refl

-- ---- where the panes are

-- a quarter of twenty rows for the messages, or a row for each below the title if they are fewer
pub quarter : compute_pane_bounds 9 (rect 1 1 78 22) false ≡ (rect 1 1 78 17, Some (rect 1 18 78 5))
quarter = refl

pub few_messages : compute_pane_bounds 2 (rect 1 1 78 22) false ≡ (rect 1 1 78 19, Some (rect 1 20 78 3))
few_messages = refl

-- nine tenths of them if they are maximized
pub maximized : compute_pane_bounds 90 (rect 1 1 78 22) true ≡ (rect 1 1 78 3, Some (rect 1 4 78 19))
maximized = refl

-- no messages, and no room for one
pub no_messages : compute_pane_bounds 0 (rect 1 1 78 22) false ≡ (rect 1 1 78 22, None)
no_messages = refl

pub no_room : compute_pane_bounds 9 (rect 1 1 78 7) false ≡ (rect 1 1 78 7, None)
no_room = refl

-- a third of 90 columns for information that wants 50, or what it wants if that is less; maximized, all but eight
pub third : information_width 50 false 90 ≡ 30
third = refl

pub less : information_width 20 false 90 ≡ 20
less = refl

pub all_but_eight : information_width 100 true 90 ≡ 82
all_but_eight = refl

pub at_right : split_right (rect 0 0 90 9) 30 ≡ (rect 0 0 60 9, Some (rect 60 0 30 9))
at_right = refl

-- ---- the window

pub window : (with_window (rect 0 0 6 2) (codes "ab") (blank_sheet 6 2)).rows
    ≡ (cells plain (codes "┌") ++ (cells bold (codes "ab") ++ cells plain (codes "──┐"))) ∷ cells plain (codes "└────┘") ∷ []
unfolding unicode_width
window = refl

-- a title is cut before the right side
pub cut_title : (with_window (rect 0 0 4 2) (codes "abc") (blank_sheet 4 2)).rows
    ≡ (cells plain (codes "┌") ++ (cells bold (codes "ab") ++ cells plain (codes "┐"))) ∷ cells plain (codes "└──┘") ∷ []
unfolding unicode_width
cut_title = refl

-- the headline is behind the left side, the title, and a column, and ends before the right side
pub behind_title : headline_bound (rect 0 0 80 24) (codes "ab") ≡ rect 4 0 75 24
unfolding unicode_width
behind_title = refl

pub small : is_small (rect 0 0 3 9) ≡ true
small = refl

pub not_small : is_small (rect 0 0 4 4) ≡ false
not_small = refl

-- ---- the headline

pub padded_numbers : in_three 7 ++ (in_three 42 ++ in_three 1234) ≡ codes "  7 421234"
unfolding digits
padded_numbers = refl

abbrev group : PathRow
group = (1 ∷ [], record { name = codes "a"; id = unknown_id; progress = None })

abbrev task : Phase → PathRow
task phase = (1 ∷ [], record { name = codes "a"; id = unknown_id; progress = Some (record { counter = 1; bound = None; unit = None; phase = phase }) })

pub counted : counts_text (group ∷ task Running ∷ task (Blocked (codes "io") None) ∷ task Running ∷ task (Halted (codes "io") None) ∷ [])
    ≡ codes "  2 running +   2 blocked +   1 groups = 5"
unfolding digits
counted = refl

-- one frame in two seconds
pub slow : interval_text 2500000000 (codes "2026-11-29T22:00:00") ≡ encode_utf8_all (codes " Every 2s → 2026-11-29T22:00:00")
unfolding lib.Utf8.encode digits
slow = refl

-- one each second isn't said
pub each_second : interval_text 1000000000 (codes "2026-11-29T22:00:00") ≡ []
each_second = refl

pub asked : headline_text (Deferred true) 100000000 [] (task Running ∷ [])
    ≡ codes " interrupt requested - please wait    1 running +   0 blocked +   0 groups = 1 "
unfolding digits
asked = refl
