-- The cells of a text, written into one row of a grid.
use Rattle.std.proofs.Common.{◌≡◌, ℕ, ◌-◌, ◌<◌, List, length, get_or, set, ap, ◌∙◌}
use Rattle.std.specs.Prelude.{min}
use Rattle.prodash_core.specs.declared.render.tui.event.Rect.{Rect}
use Rattle.prodash_tui.specs.declared.cell.Cell.{Cell}
use Rattle.prodash_tui.specs.Grids.{in_rows}
use Rattle.prodash_tui.specs.Rows.{splice}
use Rattle.prodash_tui.proofs.GridRows.{in_one}

-- `cells` has those for a room of so many columns
pub row_written : (cells : ℕ → List Cell) (area : Rect) (width : ℕ) (rows : List (List Cell)) (y x room : ℕ) (old drawn : List Cell)
    → y ≡ area.y → x ≡ min area.x width → room ≡ min area.width (width - area.x) → 1 ≡ min 1 area.height
    → area.y < length rows → old ≡ get_or rows y old → drawn ≡ splice x (cells room) old
    → set rows y drawn ≡ in_rows area.y (min 1 area.height) (splice (min area.x width) (cells (min area.width (width - area.x)))) rows
row_written cells area width rows y x room old drawn is_y is_x is_room one inside value is =
    let f = splice (min area.x width) (cells (min area.width (width - area.x))) in
    let written : drawn ≡ f (get_or rows area.y old) =
    is
    ∙ ap (λ (n : ℕ). splice n (cells room) old) is_x
    ∙ ap (λ (n : ℕ). splice (min area.x width) (cells n) old) is_room
    ∙ ap f (value ∙ ap (λ (n : ℕ). get_or rows n old) is_y) in
    ap (λ (n : ℕ). set rows n drawn) is_y
    ∙ ap (λ (r : List Cell). set rows area.y r) written
    ∙ in_one area.y f rows old inside
    ∙ ap (λ (n : ℕ). in_rows area.y n f rows) one
