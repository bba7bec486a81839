-- Cells that hold only such characters, a space among them, do so after they are cut or written over.
use Rattle.std.proofs.Common.{ℕ, zero, suc, ◌+◌, ◌-◌, Bool, true, false, cond, List, [], ◌∷◌, length, take, drop}
use Rattle.std.specs.Prelude.{slice_set}
use Rattle.prodash_line.proofs.Lists.{AllByRecursion-append, AllByRecursion-drop, AllByRecursion-take}
use Rattle.prodash_tui.specs.declared.cell.Cell.{Cell}
use Rattle.prodash_tui.specs.declared.cell.Cell.TheVariants.{Holds, Half}
use Rattle.prodash_tui.specs.Cells.{blank_cell, cell_at, is_half}
use Rattle.prodash_tui.specs.HeldCharacters.{CellHolds, RowHolds}
use Rattle.prodash_tui.specs.Rows.{front, healed, splice}
use Rattle.prodash_tui.specs.Texts.{cut}

pub choice_held : (P : ℕ → Type 0) (t : Bool) (a b : List Cell) → RowHolds P a → RowHolds P b → RowHolds P (cond t a b)
choice_held P true a b h i = h
choice_held P false a b h i = i

pub cut_held : (P : ℕ → Type 0) (n : ℕ) (cells : List Cell) → RowHolds P cells → RowHolds P (cut n cells)
cut_held P n cells h =
    choice_held P (is_half (cell_at cells n)) (take (n - 1) cells) (take n cells) (AllByRecursion-take (CellHolds P) (n - 1) cells h) (AllByRecursion-take (CellHolds P) n cells h)

pub set_held : (P : ℕ → Type 0) (cells : List Cell) (k : ℕ) (c : Cell) → CellHolds P c → RowHolds P cells → RowHolds P (slice_set cells k c)
set_held P [] k c h hs = tt
set_held P (b ∷ cells) zero c h hs = (h, hs.1)
set_held P (b ∷ cells) (suc k) c h hs = (hs.0, set_held P cells k c h hs.1)

-- the cell in place k, or a blank one
pub at_held : (P : ℕ → Type 0) → P 32 → (cells : List Cell) (k : ℕ) → RowHolds P cells → CellHolds P (cell_at cells k)
at_held P space [] k h = (space, tt)
at_held P space (c ∷ cells) zero h = h.0
at_held P space (c ∷ cells) (suc k) h = at_held P space cells k h.1

healed_held : (P : ℕ → Type 0) → P 32 → (cells : List Cell) → RowHolds P cells → RowHolds P (healed cells)
healed_held P space [] h = tt
healed_held P space (Holds c others style ∷ cells) h = h
healed_held P space (Half ∷ cells) h = ((space, tt), h.1)

front_held : (P : ℕ → Type 0) → P 32 → (x : ℕ) (cells : List Cell) → RowHolds P cells → RowHolds P (front x cells)
front_held P space x cells h =
    let taken = AllByRecursion-take (CellHolds P) x cells h in
    choice_held P (is_half (cell_at cells x)) (slice_set (take x cells) (x - 1) blank_cell) (take x cells) (set_held P (take x cells) (x - 1) blank_cell (space, tt) taken) taken

pub splice_held : (P : ℕ → Type 0) → P 32 → (x : ℕ) (new cells : List Cell) → RowHolds P new → RowHolds P cells → RowHolds P (splice x new cells)
splice_held P space x new cells h hs =
    AllByRecursion-append (CellHolds P) (front x cells) _ (front_held P space x cells hs)
    (AllByRecursion-append (CellHolds P) new _ h (healed_held P space (drop (x + length new) cells) (AllByRecursion-drop (CellHolds P) (x + length new) cells hs)))
