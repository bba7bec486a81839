-- A grid of cells, and what drawing on it leaves.
use Rattle.std.specs.Prelude.{◌≡◌, ℕ, ◌-◌, ◌<◌, min, List, [], ◌∷◌, length, replicate, slice_index_or}
use Rattle.std.specs.List.{All}
use Rattle.prodash_core.specs.declared.render.tui.event.Rect.{Rect}
use Rattle.prodash_tui.specs.declared.cell.Cell.{Cell}
use Rattle.prodash_tui.specs.declared.style.Color.{Color}
use Rattle.prodash_tui.specs.declared.style.Style.{Style}
use Rattle.prodash_tui.specs.Cells.{blank_cells, on_background}
use Rattle.prodash_tui.specs.Rows.{in_part, splice}
use Rattle.prodash_tui.specs.Texts.{filling, text_cut, text_shortened}
use Rattle.prodash_tui.specs.Rects.{border}

-- how many columns it has, how many rows, and the rows
pub record Sheet : Type 0 where
  pub width : ℕ
  pub height : ℕ
  pub rows : List (List Cell)

-- a grid of blank cells
abbrev pub blank_sheet : ℕ → ℕ → Sheet
blank_sheet width height = record { width = width; height = height; rows = replicate height (blank_cells width) }

-- it has as many rows as its height, each as wide as the grid
pub record IsSheet (g : Sheet) : Type 0 where
  pub high : length g.rows ≡ g.height
  pub each : All (λ row. length row ≡ g.width) g.rows

-- row y of a grid is this one
abbrev pub IsRow : Sheet → ℕ → List Cell → Type 0
IsRow g y row = (y < g.height) × (row ≡ slice_index_or g.rows y [])

-- the first column of a rectangle, or the end of the rows if it is right of them
abbrev pub left_of : Rect → Sheet → ℕ
left_of area g = min area.x g.width

-- how many columns of a rectangle are on the grid
abbrev pub room_of : Rect → Sheet → ℕ
room_of area g = min area.width (g.width - area.x)

-- so many of the rows changed, from one on
abbrev pub in_rows : ℕ → ℕ → (List Cell → List Cell) → List (List Cell) → List (List Cell)
in_rows first count f rows = in_part first count f rows

-- cells at the left edge of a rectangle, in so many rows from its first on
abbrev pub with_cells : Rect → ℕ → List Cell → Sheet → Sheet
with_cells area count cells g = record g { rows = in_rows area.y count (splice (left_of area g) cells) g.rows }

-- a text in the first row of a rectangle, cut at its right edge
abbrev pub with_text : Rect → Style → List ℕ → Sheet → Sheet
with_text area style text g = with_cells area (min 1 area.height) (text_cut style (room_of area g) text) g

-- a text in the first row of a rectangle, with an ellipsis at its right edge if it is wider
abbrev pub with_shortened : Rect → Style → List ℕ → Sheet → Sheet
with_shortened area style text g = with_cells area (min 1 area.height) (text_shortened style (room_of area g) text) g

-- a rectangle filled with a character
abbrev pub with_filling : Rect → Style → ℕ → Sheet → Sheet
with_filling area style c g = with_cells area area.height (filling style (room_of area g) c) g

-- rectangles filled, each with a character, one after another
abbrev pub with_fillings : Style → List (Rect × ℕ) → Sheet → Sheet
with_fillings style [] g = g
with_fillings style (f ∷ fs) g = with_fillings style fs (with_filling f.0 style f.1 g)

-- a border inside a rectangle
abbrev pub with_border : Rect → Style → Sheet → Sheet
with_border area style g = with_fillings style (border area) g

-- a rectangle whose characters have another background
abbrev pub with_background : Rect → Color → Sheet → Sheet
with_background area color g =
    record g { rows = in_rows area.y area.height (in_part (left_of area g) (room_of area g) (on_background color)) g.rows }
