-- Rows of cells, and what writing others into them leaves.
use Rattle.std.specs.Prelude.{ℕ, ◌+◌, ◌-◌, List, [], ◌∷◌, ◌++◌, length, map, take, drop, slice_set, if◌then◌else◌}
use Rattle.prodash_tui.specs.declared.cell.Cell.{Cell}
use Rattle.prodash_tui.specs.declared.cell.Cell.TheVariants.{Holds, Half}
use Rattle.prodash_tui.specs.Cells.{blank_cell, cell_at, is_half}

-- the first x cells, of which the last is blank if its other half is behind them
abbrev pub front : ℕ → List Cell → List Cell
front x cells = if is_half (cell_at cells x) then slice_set (take x cells) (x - 1) blank_cell else take x cells

-- cells of which the first is blank if its other half is before them
abbrev pub healed : List Cell → List Cell
healed [] = []
healed (Holds c joined style ∷ cells) = Holds c joined style ∷ cells
healed (Half ∷ cells) = blank_cell ∷ cells

-- the cells with these in place of those from column x on
abbrev pub splice : ℕ → List Cell → List Cell → List Cell
splice x new cells = front x cells ++ (new ++ healed (drop (x + length new) cells))

-- so many elements of a list changed, from one on
abbrev pub in_part : {A : Type 0} → ℕ → ℕ → (A → A) → List A → List A
in_part first count f xs = take first xs ++ (map f (take count (drop first xs)) ++ drop (first + count) xs)
