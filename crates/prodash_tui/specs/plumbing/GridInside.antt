-- The fields of a grid: what contracts see of them, and what always holds of them.
use Rattle.std.specs.Prelude.{◌≡◌, ℕ, ◌-◌, ◌<◌, ◌^◌, List, length}
use Rattle.std.specs.List.{All}
use Rattle.prodash_tui.specs.declared.cell.Cell.{Cell}
use Rattle.prodash_tui.specs.declared.style.Color.{Color}
use Rattle.prodash_tui.specs.declared.style.Style.{Style}
use Rattle.prodash_tui.specs.Cells.{on_background}
use Rattle.prodash_tui.specs.Rows.{in_part, splice}
use Rattle.prodash_tui.specs.Texts.{filling}
use Rattle.prodash_tui.specs.Grids.{Sheet, in_rows}
use Rattle.prodash_tui.specs.declared.grid.Grid.TheInside.{Inside}

-- the grid that contracts see
abbrev pub sheet : Inside → Sheet
sheet g = record { width = g.width; height = g.height; rows = g.rows.items }

-- the rows from `first` up to `last` with a character in the columns from x up to `end`
abbrev pub filled_rows : ℕ → ℕ → ℕ → ℕ → Style → ℕ → List (List Cell) → List (List Cell)
filled_rows first last x end style c rows = in_rows first (last - first) (splice x (filling style (end - x) c)) rows

-- the rows from `first` up to `last` with another background in the columns from x up to `end`
abbrev pub colored_rows : ℕ → ℕ → ℕ → ℕ → Color → List (List Cell) → List (List Cell)
colored_rows first last x end color rows = in_rows first (last - first) (in_part x (end - x) (on_background color)) rows

-- it has as many rows as its height, and each is as wide as the grid
pub record IsGrid (g : Inside) : Type 0 where
  pub high : length g.rows.items ≡ g.height
  pub narrow : g.width < 2 ^ 16
  pub low : g.height < 2 ^ 16
  pub each : All (λ row. length row ≡ g.width) g.rows.items
