-- The cells of a grid that are inside and outside a rectangle.
use Rattle.std.specs.Prelude.{◌≡◌, ◌↔◌, ℕ, ◌+◌, ◌^◌, ◌<◌, ◌≤◌, false, List, [], length, take, drop, slice_index_or}
use Rattle.prodash_core.specs.declared.render.tui.event.Rect.{Rect}
use Rattle.prodash_tui.specs.declared.cell.Cell.{Cell}
use Rattle.prodash_tui.specs.declared.style.Color.{Color}
use Rattle.prodash_tui.specs.declared.style.Style.{Style}
use Rattle.prodash_tui.specs.Cells.{cell_at, is_half, on_background}
use Rattle.prodash_tui.specs.Texts.{filling, text_cut, text_shortened}
use Rattle.prodash_tui.specs.Grids.{IsSheet, Sheet, left_of, room_of, with_background, with_filling, with_shortened, with_text}

-- row y of a grid; it has no cells if there are fewer rows
abbrev pub row_at : Sheet → ℕ → List Cell
row_at g y = slice_index_or g.rows y []

-- the cell in row y and column x; a blank one if there is none
abbrev pub grid_cell : Sheet → ℕ → ℕ → Cell
grid_cell g y x = cell_at (row_at g y) x

-- a row of a rectangle
abbrev pub IsRowOf : Rect → ℕ → Type 0
IsRowOf area y = (area.y ≤ y) × (y < area.y + area.height)

-- a cell of a rectangle
abbrev pub IsIn : Rect → ℕ → ℕ → Type 0
IsIn area y x = IsRowOf area y × (area.x ≤ x) × (x < area.x + area.width)

-- the cells of this rectangle are those that two others share
abbrev pub IsShared : Rect → Rect → Rect → Type 0
IsShared area a b = (y x : ℕ) → IsIn area y x ↔ (IsIn a y x × IsIn b y x)

-- neither the left nor the right edge of a rectangle goes through a character of two columns
pub record CutsNone (area : Rect) (g : Sheet) : Type 0 where
  pub left : (y : ℕ) → IsRowOf area y → is_half (grid_cell g y area.x) ≡ false
  pub right : (y : ℕ) → IsRowOf area y → is_half (grid_cell g y (area.x + area.width)) ≡ false

-- outside a rectangle two grids have the same cells
abbrev pub SameOutside : Rect → Sheet → Sheet → Type 0
SameOutside area g h = (y x : ℕ) → (IsIn area y x → ⊥) → grid_cell h y x ≡ grid_cell g y x

-- row y of a grid has these cells at the left edge of a rectangle
abbrev pub Shows : Rect → Sheet → ℕ → List Cell → Type 0
Shows area g y cells = take (length cells) (drop (left_of area g) (row_at g y)) ≡ cells

-- a rectangle that begins at a row and a column of 16 bits, as each `Rect` does
abbrev pub IsRect : Rect → Type 0
IsRect area = (area.x < 2 ^ 16) × (area.y < 2 ^ 16)

-- a way to draw in a rectangle that changes no cell outside it, if its edges go through no character of two columns
abbrev pub StaysInside : (Rect → Sheet → Sheet) → Type 0
StaysInside draw = (area : Rect) (g : Sheet) → IsRect area → IsSheet g → CutsNone area g → SameOutside area g (draw area g)

-- a way to draw in a rectangle whose first row then has these cells, which depend on how many columns there are
abbrev pub ShowsFirst : (Rect → Sheet → Sheet) → (ℕ → List Cell) → Type 0
ShowsFirst draw cells =
    (area : Rect) (g : Sheet) → IsSheet g → 0 < area.height → area.y < g.height → Shows area (draw area g) area.y (cells (room_of area g))

-- a way to draw in a rectangle of which then each row has these cells
abbrev pub ShowsInAll : (Rect → Sheet → Sheet) → (ℕ → List Cell) → Type 0
ShowsInAll draw cells =
    (area : Rect) (g : Sheet) (y : ℕ) → IsSheet g → IsRowOf area y → y < g.height → Shows area (draw area g) y (cells (room_of area g))

-- the first row of the rectangle shows each text, cut at its right edge
abbrev pub ShowsTexts : Type 0
ShowsTexts = (style : Style) (text : List ℕ) → ShowsFirst (λ area g. with_text area style text g) (λ n. text_cut style n text)

-- the first row of the rectangle shows each text, with an ellipsis at its right edge if it is wider
abbrev pub ShowsShortened : Type 0
ShowsShortened = (style : Style) (text : List ℕ) → ShowsFirst (λ area g. with_shortened area style text g) (λ n. text_shortened style n text)

-- each row of the rectangle shows each character as often as it fits
abbrev pub ShowsFillings : Type 0
ShowsFillings = (style : Style) (c : ℕ) → ShowsInAll (λ area g. with_filling area style c g) (λ n. filling style n c)

-- each character in the rectangle is on the background, and is else as it was
abbrev pub ColorsInside : Type 0
ColorsInside =
    (color : Color) (area : Rect) (g : Sheet) (y x : ℕ) → IsSheet g → IsIn area y x → y < g.height → x < g.width
    → grid_cell (with_background area color g) y x ≡ on_background color (grid_cell g y x)
