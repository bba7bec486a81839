-- Nothing is seen of a vertical line under a text that begins where it stands.
use Rattle.std.proofs.Common.{◌≡◌, ℕ, zero, suc, ◌+◌, ◌-◌, ◌<◌, ◌≤◌, Bool, true, false, cond, inl, inr, List, [], ◌∷◌, ◌++◌, length, get_or, set, take, refl, sym, ap, ◌∙◌, arith}
use Rattle.std.specs.Prelude.{min, nat_le}
use Rattle.std.proofs.lemmas.Bool.{cases_lt}
use Rattle.std.proofs.lemmas.List.{get_or-set_same, length-set, length-take, length_push, set-set}
use Rattle.std.proofs.lemmas.List.Elements.{All-get_or}
use Rattle.std.proofs.Math.Utf8.{encode}
use Rattle.unicode_width.proofs.Computing.{unicode_width}
use Rattle.prodash_core.specs.declared.render.tui.event.Rect.{Rect}
use Rattle.prodash_line.specs.CellRows.{char_columns, text_columns}
use Rattle.prodash_tui.specs.declared.cell.Cell.{Cell}
use Rattle.prodash_tui.specs.Cells.{cell_of, is_half, plain}
use Rattle.prodash_tui.specs.Grids.{IsSheet, Sheet, left_of, room_of, with_shortened}
use Rattle.prodash_tui.specs.Panes.{vertical_line}
use Rattle.prodash_tui.specs.Rows.{in_part, splice}
use Rattle.prodash_tui.specs.Texts.{cut, drawn_text, text_cells, text_shortened}
use Rattle.prodash_tui.proofs.GridRows.{in_none, in_one, in_past}
use Rattle.prodash_tui.proofs.SplicedRows.{length-splice, splice_again, splice_more}
use Rattle.prodash_tui.proofs.WrittenTexts.{cut_all, length-shortened, length-text_cells, shortened_whole}

-- ---- a row

no_cells : (cells : List Cell) → length cells ≤ 0 → cells ≡ []
no_cells [] h = refl
no_cells (x ∷ cells) h = absurd (omega arith)

over_none : (x : ℕ) (new cells : List Cell) → x ≤ length cells → splice x new (splice x [] cells) ≡ splice x new cells
over_none x new cells fits =
    ap (λ (n : ℕ). splice n new (splice x [] cells)) (let e : x ≡ x + length {A = Cell} [] = omega arith in e)
    ∙ splice_more x [] new cells fits

over_one : (x : ℕ) (h : Cell) (new cells : List Cell) → x + 1 ≤ length cells → is_half h ≡ false → 0 < length new
    → splice x new (splice x (h ∷ []) cells) ≡ splice x new cells
over_one x h [] cells fits whole some = absurd (omega arith)
over_one x h (n ∷ new) cells fits whole some =
    let row : List Cell = splice x (h ∷ []) cells in
    let size : length row ≡ length cells = length-splice x (h ∷ []) cells (omega arith) in
    sym (splice_more x (n ∷ []) new row (omega arith))
    ∙ ap (splice (x + 1) new) (splice_again x h [] (n ∷ []) cells (omega arith) whole refl)
    ∙ splice_more x (n ∷ []) new cells (omega arith)

-- ---- the cells of the line, and of the text

line_cells : text_cells char_columns plain (drawn_text vertical_line) ≡ cell_of plain 0x2502 ∷ []
unfolding unicode_width encode
line_cells = refl

line_whole : (n : ℕ) → 0 < n → text_shortened plain n vertical_line ≡ cell_of plain 0x2502 ∷ []
line_whole n some =
    let all : List Cell = text_cells char_columns plain (drawn_text vertical_line) in
    let fits : length all ≤ n = omega (arith, ap length line_cells) in
    sym (shortened_whole plain n all fits) ∙ cut_all n all fits ∙ line_cells

some_of : (b : Bool) (n : ℕ) (cells : List Cell) → nat_le (length cells) n ≡ b → 0 < n → 0 < length cells
    → 0 < length (cond b cells (take n (cut (n - 1) cells ++ cell_of plain 0x2026 ∷ [])))
some_of true n cells is room some = some
some_of false n cells is room some =
    let new : List Cell = cut (n - 1) cells ++ cell_of plain 0x2026 ∷ [] in
    omega (arith, length-take n new, length_push (cut (n - 1) cells) (cell_of plain 0x2026))

some_shortened : (n : ℕ) (text : List ℕ) → 0 < n → 0 < text_columns char_columns (drawn_text text) → 0 < length (text_shortened plain n text)
some_shortened n text room some =
    let cells : List Cell = text_cells char_columns plain (drawn_text text) in
    some_of (nat_le (length cells) n) n cells refl room (omega (arith, length-text_cells char_columns plain (drawn_text text)))

over_line : (n x : ℕ) (text : List ℕ) (cells : List Cell) → x + n ≤ length cells → 0 < text_columns char_columns (drawn_text text)
    → splice x (text_shortened plain n text) (splice x (text_shortened plain n vertical_line) cells) ≡ splice x (text_shortened plain n text) cells
over_line zero x text cells fits some =
    let new : List Cell = text_shortened plain 0 text in
    let old : text_shortened plain 0 vertical_line ≡ [] =
    no_cells (text_shortened plain 0 vertical_line) (length-shortened plain 0 (text_cells char_columns plain (drawn_text vertical_line))) in
    ap (λ (cs : List Cell). splice x new (splice x cs cells)) old ∙ over_none x new cells (omega arith)
over_line (suc n) x text cells fits some =
    let new : List Cell = text_shortened plain (suc n) text in
    ap (λ (cs : List Cell). splice x new (splice x cs cells)) (line_whole (suc n) (omega arith))
    ∙ over_one x (cell_of plain 0x2502) new cells (omega arith) refl (some_shortened (suc n) text (omega arith) some)

-- ---- a grid

again_one : (y : ℕ) (f h : List Cell → List Cell) (rows : List (List Cell)) → y < length rows → f (h (get_or rows y [])) ≡ f (get_or rows y [])
    → in_part y 1 f (in_part y 1 h rows) ≡ in_part y 1 f rows
again_one y f h rows inside same =
    let row : List Cell = get_or rows y [] in
    let changed : List (List Cell) = set rows y (h row) in
    ap (in_part y 1 f) (sym (in_one y h rows [] inside))
    ∙ sym (in_one y f changed [] (omega (arith, length-set rows y (h row))))
    ∙ ap (λ (r : List Cell). set changed y (f r)) (get_or-set_same rows y (h row) [] inside)
    ∙ ap (set changed y) same
    ∙ set-set rows y (h row) (f row)
    ∙ in_one y f rows [] inside

again : (y count : ℕ) (f h : List Cell → List Cell) (rows : List (List Cell)) → count ≤ 1 → (y < length rows → f (h (get_or rows y [])) ≡ f (get_or rows y []))
    → in_part y count f (in_part y count h rows) ≡ in_part y count f rows
again y zero f h rows few same = ap (in_part y 0 f) (sym (in_none y h rows))
again y (suc zero) f h rows few same = elim (cases_lt y (length rows)) [
  | inl inside ↦ again_one y f h rows inside (same inside)
  | inr past ↦ ap (in_part y 1 f) (sym (in_past y 1 h rows past))
]
again y (suc (suc n)) f h rows few same = absurd (omega arith)

pub line_hidden : (area : Rect) (text : List ℕ) (g : Sheet) → IsSheet g → 0 < text_columns char_columns (drawn_text text)
    → with_shortened area plain text (with_shortened area plain vertical_line g) ≡ with_shortened area plain text g
line_hidden area text g is some =
    let x : ℕ = left_of area g in
    let n : ℕ = room_of area g in
    ap (λ (rows : List (List Cell)). record g { rows = rows })
    (again area.y (min 1 area.height) (splice x (text_shortened plain n text)) (splice x (text_shortened plain n vertical_line)) g.rows (omega arith)
    (λ inside. over_line n x text (get_or g.rows area.y []) (omega (arith, All-get_or (λ row. length row ≡ g.width) g.rows area.y [] inside is.each)) some))
