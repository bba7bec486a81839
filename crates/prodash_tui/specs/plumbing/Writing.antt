-- A text that is being written into a row, character by character.
use Rattle.std.specs.Prelude.{ℕ, zero, suc, ◌+◌, ◌<◌, ◌≤◌, ⊤, nat_le, List, [], ◌∷◌, length, slice_set, Option, Some, None, if◌then◌else◌}
use Rattle.prodash_tui.specs.declared.cell.Cell.{Cell}
use Rattle.prodash_tui.specs.declared.cell.Cell.TheVariants.{Half}
use Rattle.prodash_tui.specs.declared.row.Pen.{Pen}
use Rattle.prodash_tui.specs.declared.style.Style.{Style}
use Rattle.prodash_tui.specs.Cells.{cell_of, cell_at, joined_by}

-- one of the cells, or none
abbrev pub IsCell : List Cell → Option ℕ → Type 0
IsCell cells None = ⊤
IsCell cells (Some k) = k < length cells

-- the pen is inside these cells
pub record IsInside (cells : List Cell) (pen : Pen) : Type 0 where
  pub at : pen.at ≤ pen.end
  pub end : pen.end ≤ length cells
  pub last : IsCell cells pen.last

-- a pen at column x that may write up to column `end`
abbrev pub pen_at : ℕ → ℕ → Pen
pen_at x end = record { at = x; end = end; last = None }

-- a character joins the last one that was written
abbrev pub join_last : Option ℕ → ℕ → List Cell → List Cell
join_last None c cells = cells
join_last (Some k) c cells = slice_set cells k (joined_by c (cell_at cells k))

-- a pen that writes nothing more
abbrev pub full : Pen → Pen
full pen = record pen { end = pen.at; last = None }

-- a pen that has written so many columns
abbrev pub moved : ℕ → Pen → Pen
moved n pen = record pen { at = pen.at + n; last = Some pen.at }

-- the cells and the pen after a character of so many columns
abbrev pub after_char : Style → ℕ → ℕ → List Cell × Pen → List Cell × Pen
after_char style zero c s = (join_last s.1.last c s.0, s.1)
after_char style (suc zero) c s =
    if nat_le (s.1.at + 1) s.1.end then (slice_set s.0 s.1.at (cell_of style c), moved 1 s.1) else (s.0, full s.1)
after_char style (suc (suc n)) c s =
    if nat_le (s.1.at + 2) s.1.end
    then (slice_set (slice_set s.0 s.1.at (cell_of style c)) (s.1.at + 1) Half, moved 2 s.1)
    else (s.0, full s.1)

-- the cells and the pen after a text
abbrev pub after_text : (ℕ → ℕ) → Style → List ℕ → List Cell × Pen → List Cell × Pen
after_text columns style [] s = s
after_text columns style (c ∷ text) s = after_text columns style text (after_char style (columns c) c s)
