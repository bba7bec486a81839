-- What a page shows.
use Rattle.std.specs.Prelude.{ℕ, ◌≡◌, ◌<◌, ◌≤◌, ◌-◌, List, [], ◌∷◌, ◌++◌, length, replicate}
use Rattle.std.specs.List.{AllByRecursion}
use Rattle.prodash_line.specs.Lines.{Line, line_text}
use Rattle.prodash_line.specs.Page.{Canvas, blank}

-- a line as a row of cells: its characters, and blanks after them
abbrev pub cells_of : ℕ → Line → List ℕ
cells_of columns line = line_text line ++ replicate (columns - length (line_text line)) 32

-- the rows are these lines, and then blank ones
abbrev pub ShowsLines : ℕ → List Line → List (List ℕ) → Type 0
ShowsLines columns [] rows = AllByRecursion (λ row. row ≡ blank columns) rows
ShowsLines columns (line ∷ lines) [] = ⊥
ShowsLines columns (line ∷ lines) (row ∷ rows) = (row ≡ cells_of columns line) × ShowsLines columns lines rows

-- The page has the rows above, then these lines, then blank rows. The cursor is at the beginning of the first row below those above, inside
-- the window.
pub record Shows (above : List (List ℕ)) (lines : List Line) (page : Canvas) : Type 0 where
  pub below : List (List ℕ)
  pub rows : page.rows ≡ above ++ below
  pub shown : ShowsLines page.columns lines below
  pub row : page.row ≡ length above
  pub column : page.column ≡ 0
  pub inside : 0 < length below
  pub window : length below ≤ page.height
