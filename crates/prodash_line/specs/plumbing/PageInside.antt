-- The fields of a page: what contracts see of them, and what always holds of them.
use Rattle.std.specs.Prelude.{◌≡◌, ◌<◌, ◌≤◌, length}
use Rattle.std.specs.List.{All}
use Rattle.prodash_line.specs.Terminals.{Terminal}
use Rattle.prodash_line.specs.declared.render.line.page.Page.TheInside.{Inside}

-- the page that contracts see
abbrev pub terminal : Inside → Terminal
terminal p = record { width = p.columns; height = p.height; rows = p.rows.items; row = p.row; column = p.column; wraps = p.wraps }

-- the page has a column and a row, the cursor is in a row, each row is as wide as the page
pub record IsPage (p : Inside) : Type 0 where
  pub wide : 0 < p.columns
  pub high : 0 < p.height
  pub column : p.column ≤ p.columns
  pub row : p.row < length p.rows.items
  pub each : All (λ row. length row ≡ p.columns) p.rows.items
