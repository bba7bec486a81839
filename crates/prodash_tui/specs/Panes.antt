-- What the panes of a dashboard have in common.
use Rattle.std.specs.Prelude.{ℕ, true, List, codes, encode_utf8_all}
use Rattle.prodash_core.specs.declared.render.tui.event.Rect.{Rect}
use Rattle.prodash_tui.specs.declared.style.Style.{Style}
use Rattle.prodash_tui.specs.Cells.{plain}
use Rattle.prodash_tui.specs.Grids.{Sheet, with_filling, with_shortened, with_text}
use Rattle.prodash_tui.specs.Rects.{snap_to_right, top_of}
use Rattle.prodash_tui.specs.Texts.{block_width}

-- the bold style
abbrev pub bold : Style
bold = record plain { bold = true }

-- a text at the right end of a rectangle's first row, in bold
abbrev pub with_text_at_right : Rect → List ℕ → Sheet → Sheet
with_text_at_right area text g = with_shortened (snap_to_right area (block_width text)) bold text g

-- the first row of a pane: a line with its title at the left, and which keys it takes at the right
abbrev pub with_head : Rect → List ℕ → List ℕ → Sheet → Sheet
with_head area title keys g = with_text_at_right area keys (with_text area bold title (with_filling (top_of area) plain 0x2500 g))

-- the vertical line between columns
abbrev pub vertical_line : List ℕ
vertical_line = encode_utf8_all (codes "│")
