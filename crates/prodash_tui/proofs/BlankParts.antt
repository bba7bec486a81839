-- Columns of a row that are blank stay so where others are drawn on, and rows don't differ where both are blank.
use Rattle.std.proofs.Common.{◌≡◌, ℕ, zero, suc, ◌+◌, ◌-◌, ◌<◌, ◌≤◌, Bool, true, false, cond, List, [], ◌++◌, length, set, take, drop, inl, inr, refl, sym, ap, subst, ◌∙◌, append_assoc, append-nil, length-append, arith}
use Rattle.std.proofs.lemmas.Bool.{cases_lt}
use Rattle.std.proofs.lemmas.Grind.{get_or-set_at}
use Rattle.std.proofs.lemmas.List.{drop_all, ext_get_or, get_or-drop, get_or-replicate, get_or-set_other, get_or-take, get_or_append_left, length-drop, length-replicate, length-take-le, replicate-append-replicate, take-append-drop, take_at}
use Rattle.prodash_tui.specs.declared.cell.Cell.{Cell}
use Rattle.prodash_tui.specs.declared.grid_row.Span.{Span}
use Rattle.prodash_tui.specs.Cells.{blank_cell, blank_cells, cell_at, is_half}
use Rattle.prodash_tui.specs.Rows.{front, healed, in_part, splice}
use Rattle.prodash_tui.specs.plumbing.Appended.{changes_from}
use Rattle.prodash_tui.specs.plumbing.BlankParts.{IsApart, IsBlankPart}
use Rattle.prodash_tui.proofs.GridRows.{in_outside, length-in_rows_any}
use Rattle.prodash_tui.proofs.SpelledSigns.{same_left}
use Rattle.prodash_tui.proofs.SplicedRows.{length-front, length-splice, splice_behind}

-- ---- columns beside those that are drawn on

front_blank : (b : Bool) (x k : ℕ) (cells : List Cell) → k < x → x ≤ length cells → cell_at cells k ≡ blank_cell
    → cell_at (cond b (set (take x cells) (x - 1) blank_cell) (take x cells)) k ≡ blank_cell
front_blank false x k cells before fits is = get_or-take x cells k blank_cell before ∙ is
front_blank true x k cells before fits is = elim (cases_lt k (x - 1)) [
  | inl other ↦
      get_or-set_other (take x cells) (x - 1) k blank_cell blank_cell (λ (e : k ≡ x - 1). omega arith) ∙ get_or-take x cells k blank_cell before ∙ is
  | inr last ↦ get_or-set_at (take x cells) (x - 1) k blank_cell blank_cell (omega arith) (omega (arith, length-take-le x cells fits))
]

splice_blank : (x : ℕ) (new cells : List Cell) (k : ℕ) → x ≤ length cells → k < x → cell_at cells k ≡ blank_cell → cell_at (splice x new cells) k ≡ blank_cell
splice_blank x new cells k fits before is =
    get_or_append_left (front x cells) (new ++ healed (drop (x + length new) cells)) blank_cell k (omega (arith, length-front x cells fits))
    ∙ front_blank (is_half (cell_at cells x)) x k cells before fits is

-- some of the columns
blank_less : (span left : Span) (cells : List Cell) → IsBlankPart span cells → span.first ≤ left.first → left.first ≤ left.last → left.last ≤ span.last → IsBlankPart left cells
blank_less span left cells part from order to = record {
  order = order;
  within = omega arith;
  blank = λ k h i. part.blank k (omega arith) (omega arith);
}

blank_splice : (span : Span) (x behind : ℕ) (new cells : List Cell) → IsBlankPart span cells → IsApart x behind span → behind ≡ x + length new → behind ≤ length cells
    → IsBlankPart span (splice x new cells)
blank_splice span x behind new cells part apart at fits = record {
  order = part.order;
  within = omega (arith, length-splice x new cells (omega arith));
  blank = λ k h i. elim (apart k h i) [
    | inl before ↦ splice_blank x new cells k (omega arith) before (part.blank k h i)
    | inr past ↦
        splice_behind x new cells k (omega arith) (omega arith) (λ (e : k ≡ x + length new). ap is_half (part.blank k h i)) ∙ part.blank k h i
  ];
}

-- what is left of them where others are written
pub blank_drawn : (span left : Span) (x behind : ℕ) (new cells row : List Cell) → IsBlankPart span cells → row ≡ splice x new cells
    → behind ≡ x + length new → behind ≤ length cells → span.first ≤ left.first → left.first ≤ left.last → left.last ≤ span.last → IsApart x behind left
    → IsBlankPart left row
blank_drawn span left x behind new cells row part is at fits from order to apart =
    subst (IsBlankPart left) (sym is) (blank_splice left x behind new cells (blank_less span left cells part from order to) apart at fits)

blank_part : (span : Span) (x end : ℕ) (f : Cell → Cell) (cells : List Cell) → IsBlankPart span cells → IsApart x end span → x ≤ end
    → IsBlankPart span (in_part x (end - x) f cells)
blank_part span x end f cells part apart order = record {
  order = part.order;
  within = omega (arith, length-in_rows_any x (end - x) f cells);
  blank = λ k h i.
      in_outside x (end - x) f cells k blank_cell (λ (m : x ≤ k) (n : k < x + (end - x)). elim (apart k h i) [ inl before ↦ (omega arith) | inr past ↦ (omega arith) ])
      ∙ part.blank k h i;
}

-- what is left of them where others are changed
pub blank_changed : (span left : Span) (x end : ℕ) (f : Cell → Cell) (cells row : List Cell) → IsBlankPart span cells → row ≡ in_part x (end - x) f cells
    → x ≤ end → span.first ≤ left.first → left.first ≤ left.last → left.last ≤ span.last → IsApart x end left
    → IsBlankPart left row
blank_changed span left x end f cells row part is fits from order to apart =
    subst (IsBlankPart left) (sym is) (blank_part left x end f cells (blank_less span left cells part from order to) apart fits)

-- ---- whole rows

-- all columns of a blank row
pub blank_row : (n m : ℕ) (row : List Cell) → row ≡ blank_cells m → n ≡ m → IsBlankPart (record { first = 0; last = n }) row
blank_row n m row is all = record {
  order = omega arith;
  within = omega (arith, ap length is, length-replicate m blank_cell);
  blank = λ k h i. ap (λ (cells : List Cell). cell_at cells k) is ∙ get_or-replicate m k blank_cell blank_cell (omega arith);
}

-- the cells of the columns
blank_middle : (span : Span) (cells : List Cell) → IsBlankPart span cells → take (span.last - span.first) (drop span.first cells) ≡ blank_cells (span.last - span.first)
blank_middle span cells part =
    let n = span.last - span.first in
    let rest = drop span.first cells in
    let dropped : length rest ≡ length cells - span.first = length-drop span.first cells in
    let size : length (take n rest) ≡ n = length-take-le n rest (omega arith) in
    ext_get_or blank_cell (take n rest) (blank_cells n) (size ∙ sym (length-replicate n blank_cell))
    (λ (i : ℕ) (inside : i < length (take n rest)).
    get_or-take n rest i blank_cell (omega arith)
    ∙ get_or-drop span.first cells i blank_cell
    ∙ part.blank (span.first + i) (omega arith) (omega arith)
    ∙ sym (get_or-replicate n i blank_cell blank_cell (omega arith)))

-- a row of which the other columns were blanked
pub blank_outside : (span : Span) (cells : List Cell) → IsBlankPart span cells
    → blank_cells span.first ++ (take (span.last - span.first) (drop span.first cells) ++ blank_cells (length cells - span.last)) ≡ blank_cells (length cells)
blank_outside span cells part =
    let n = span.last - span.first in
    let behind = length cells - span.last in
    ap (λ (cs : List Cell). blank_cells span.first ++ (cs ++ blank_cells behind)) (blank_middle span cells part)
    ∙ ap (λ (cs : List Cell). blank_cells span.first ++ cs) (replicate-append-replicate n behind blank_cell)
    ∙ replicate-append-replicate span.first (n + behind) blank_cell
    ∙ ap blank_cells (let e : span.first + (n + behind) ≡ length cells = omega arith in e)

-- a row of which the cells before and behind the columns were blanked
pub ends_blanked : (first last : ℕ) (old head tail : List Cell) → first ≤ last → last ≤ length old → head ≡ blank_cells first → tail ≡ blank_cells (length old - last)
    → take last (head ++ drop first old) ++ (tail ++ drop (length (head ++ drop first old) - last) (drop last (head ++ drop first old)))
    ≡ blank_cells first ++ (take (last - first) (drop first old) ++ blank_cells (length old - last))
ends_blanked first last old head tail order within h t =
    let rest = drop first old in
    let middle = take (last - first) rest in
    let behind = drop (last - first) rest in
    let row = head ++ rest in
    let size : length head ≡ first = ap length h ∙ length-replicate first blank_cell in
    let dropped : length rest ≡ length old - first = length-drop first old in
    let width : length row ≡ length head + length rest = length-append head rest in
    let some : length middle ≡ last - first = length-take-le (last - first) rest (omega arith) in
    let before : length (head ++ middle) ≡ length head + length middle = length-append head middle in
    let parts : row ≡ (head ++ middle) ++ behind = ap (λ (cs : List Cell). head ++ cs) (sym (take-append-drop (last - first) rest)) ∙ sym (append_assoc head middle behind) in
    let kept : take last row ≡ head ++ middle = ap (take last) parts ∙ take_at (head ++ middle) behind last (omega arith) in
    let past : drop (length row - last) (drop last row) ≡ [] = drop_all (length row - last) (drop last row) (omega (arith, length-drop last row)) in
    (λ i. kept i ++ (t i ++ past i))
    ∙ ap (λ (cs : List Cell). (head ++ middle) ++ cs) (append-nil (blank_cells (length old - last)))
    ∙ append_assoc head middle (blank_cells (length old - last))
    ∙ ap (λ (cs : List Cell). cs ++ (middle ++ blank_cells (length old - last))) h

-- ---- two rows

same_blanks : (old new : List Cell) (n i : ℕ) → i + n ≤ length old → i + n ≤ length new
    → ((k : ℕ) → i ≤ k → k < i + n → cell_at old k ≡ blank_cell) → ((k : ℕ) → i ≤ k → k < i + n → cell_at new k ≡ blank_cell)
    → changes_from i old new ≡ changes_from (i + n) old new
same_blanks old new zero i inside within a b = ap (λ (m : ℕ). changes_from m old new) (let e : i ≡ i + 0 = omega arith in e)
same_blanks old new (suc n) i inside within a b =
    same_left i (i + 1) blank_cell blank_cell old new (omega arith) (omega arith) (a i (omega arith) (omega arith)) (b i (omega arith) (omega arith)) refl refl
    ∙ same_blanks old new n (i + 1) (omega arith) (omega arith) (λ k from to. a k (omega arith) (omega arith)) (λ k from to. b k (omega arith) (omega arith))
    ∙ ap (λ (m : ℕ). changes_from m old new) (let e : i + 1 + n ≡ i + suc n = omega arith in e)

-- no change is in columns that are blank in both
pub same_between : (a b : Span) (first last : ℕ) (old new : List Cell) → IsBlankPart a old → IsBlankPart b new
    → a.first ≤ first → b.first ≤ first → first ≤ last → last ≤ a.last → last ≤ b.last
    → changes_from first old new ≡ changes_from last old new
same_between a b first last old new p q from also order to too =
    same_blanks old new (last - first) first (omega arith) (omega arith)
    (λ k h i. p.blank k (omega arith) (omega arith)) (λ k h i. q.blank k (omega arith) (omega arith))
    ∙ ap (λ (m : ℕ). changes_from m old new) (let e : first + (last - first) ≡ last = omega arith in e)
