-- Drawing on proper rows leaves proper rows.
use Rattle.std.proofs.Common.{◌≡◌, ℕ, zero, suc, ◌+◌, ◌-◌, ◌<◌, ◌≤◌, Bool, true, false, cond, List, [], ◌∷◌, ◌++◌, length, set, take, drop, inl, inr, refl, sym, ap, subst, ◌∙◌, arith}
use Rattle.std.specs.List.{AllByRecursion}
use Rattle.std.proofs.lemmas.Bool.{cases_lt}
use Rattle.std.proofs.lemmas.List.{take_more, set_at, append-nil, length-take-le}
use Rattle.unicode_width.proofs.Computing.{unicode_width}
use Rattle.prodash_line.proofs.Lists.{AllByRecursion-take}
use Rattle.prodash_line.specs.CellRows.{char_columns, joined, joined_with}
use Rattle.prodash_tui.specs.declared.cell.Cell.{Cell}
use Rattle.prodash_tui.specs.declared.cell.Cell.TheVariants.{Holds, Half}
use Rattle.prodash_tui.specs.declared.style.Style.{Style}
use Rattle.prodash_tui.specs.Cells.{blank_cell, blank_cells, cell_of, cell_at, is_half, held, plain}
use Rattle.prodash_tui.specs.Rows.{front, healed, splice}
use Rattle.prodash_tui.specs.Texts.{cells_with, cut, shortened, text_cells}
use Rattle.prodash_tui.specs.Differences.{IsProper}
use Rattle.prodash_tui.proofs.WrittenTexts.{cut_none, cut_one, cut_two, nothing_cut, shortened_long, shortened_none, shortened_whole}

-- the end of a proper row, maybe from within a wide character
abbrev pub IsEnd : (ℕ → ℕ) → List Cell → Type 0
IsEnd columns (Half ∷ cells) = IsProper columns cells
IsEnd columns [] = Unit {0}
IsEnd columns (Holds c joined style ∷ cells) = IsProper columns (Holds c joined style ∷ cells)

pub proper_end : (columns : ℕ → ℕ) (cells : List Cell) → IsProper columns cells → IsEnd columns cells
proper_end columns [] h = tt
proper_end columns (Half ∷ cells) h = absurd h
proper_end columns (Holds c joined style ∷ cells) h = h

-- a proper row has no half to be blanked
pub proper_healed : (columns : ℕ → ℕ) (cells : List Cell) → IsProper columns cells → healed cells ≡ cells
proper_healed columns [] h = refl
proper_healed columns (Half ∷ cells) h = absurd h
proper_healed columns (Holds c joined style ∷ cells) h = refl

-- the end behind the first cell
pub end_more : (columns : ℕ → ℕ) (a : Cell) (cells : List Cell) → IsEnd columns (a ∷ cells) → IsEnd columns cells
end_more columns Half cells h = proper_end columns cells h
end_more columns (Holds c joined style) [] h = tt
end_more columns (Holds c joined style) (Half ∷ cells) h = h.2
end_more columns (Holds c joined style) (Holds d joined' style' ∷ cells) h = h.2

-- the end behind the first k cells
end_drop : (columns : ℕ → ℕ) (k : ℕ) (cells : List Cell) → IsEnd columns cells → IsEnd columns (drop k cells)
end_drop columns zero cells h = h
end_drop columns (suc k) [] h = tt
end_drop columns (suc k) (a ∷ cells) h = end_drop columns k cells (end_more columns a cells h)

-- ---- parts of proper rows

abbrev Join : (ℕ → ℕ) → List ℕ → Type 0
Join columns js = AllByRecursion (λ d. columns d ≡ 0) js

pub proper_first : (columns : ℕ → ℕ) (cells : List Cell) → IsProper columns cells → is_half (cell_at cells 0) ≡ false
proper_first columns [] h = refl
proper_first columns (Half ∷ cells) h = absurd h
proper_first columns (Holds c js style ∷ cells) h = refl

-- a character of one column before others
proper_one : (columns : ℕ → ℕ) (c : ℕ) (js : List ℕ) (style : Style) (cells : List Cell) → columns c ≡ 1 → Join columns js → IsProper columns cells → IsProper columns (Holds c js style ∷ cells)
proper_one columns c js style [] one join h = (one, join, h)
proper_one columns c js style (Half ∷ cells) one join h = absurd h
proper_one columns c js style (Holds d ks style' ∷ cells) one join h = (one, join, h)

pub proper_append : (columns : ℕ → ℕ) (a b : List Cell) → IsProper columns a → IsProper columns b → IsProper columns (a ++ b)
proper_append columns [] b h i = i
proper_append columns (Half ∷ a) b h i = absurd h
proper_append columns (Holds c js style ∷ []) b h i = proper_one columns c js style b h.0 h.1 i
proper_append columns (Holds c js style ∷ Half ∷ a) b h i = (h.0, h.1, proper_append columns a b h.2 i)
proper_append columns (Holds c js style ∷ Holds d ks style' ∷ a) b h i = (h.0, h.1, proper_append columns (Holds d ks style' ∷ a) b h.2 i)

pub proper_cut : (columns : ℕ → ℕ) (n : ℕ) (cells : List Cell) → IsProper columns cells → IsProper columns (cut n cells)
proper_cut columns zero cells h = subst (IsProper columns) (sym (cut_none cells (proper_first columns cells h))) tt
proper_cut columns (suc n) [] h = subst (IsProper columns) (sym (nothing_cut (suc n))) tt
proper_cut columns (suc n) (Half ∷ cells) h = absurd h
proper_cut columns (suc n) (Holds c js style ∷ []) h =
    subst (IsProper columns) (sym (cut_one n (Holds c js style) [] refl)) (proper_one columns c js style (cut n []) h.0 h.1 (subst (IsProper columns) (sym (nothing_cut n)) tt))
proper_cut columns (suc zero) (Holds c js style ∷ Half ∷ cells) h = tt
proper_cut columns (suc (suc n)) (Holds c js style ∷ Half ∷ cells) h =
    subst (IsProper columns) (sym (cut_two n (Holds c js style) cells (proper_first columns cells h.2))) (h.0, h.1, proper_cut columns n cells h.2)
proper_cut columns (suc n) (Holds c js style ∷ Holds d ks style' ∷ cells) h =
    subst (IsProper columns) (sym (cut_one n (Holds c js style) (Holds d ks style' ∷ cells) refl))
    (proper_one columns c js style (cut n (Holds d ks style' ∷ cells)) h.0 h.1 (proper_cut columns n (Holds d ks style' ∷ cells) h.2))

-- the cells before a column are those cut there, and a blank one if a character was cut
front_cut : (x : ℕ) (cells : List Cell) (b : Bool) → 0 < x → x ≤ length cells
    → cond b (set (take x cells) (x - 1) blank_cell) (take x cells) ≡ cond b (take (x - 1) cells) (take x cells) ++ cond b (blank_cell ∷ []) []
front_cut x cells true some fits =
    let parts : take x cells ≡ take (x - 1) cells ++ cell_at cells (x - 1) ∷ [] =
    ap (λ (n : ℕ). take n cells) (let e : x ≡ x - 1 + 1 = omega arith in e) ∙ take_more cells (x - 1) blank_cell (omega arith) in
    ap (λ (cs : List Cell). set cs (x - 1) blank_cell) parts
    ∙ set_at (take (x - 1) cells) (cell_at cells (x - 1)) [] blank_cell (x - 1) (length-take-le (x - 1) cells (omega arith))
front_cut x cells false some fits = sym (append-nil (take x cells))

blank_either : (columns : ℕ → ℕ) (b : Bool) → columns 32 ≡ 1 → IsProper columns (cond b (blank_cell ∷ []) [])
blank_either columns true space = (space, tt, tt)
blank_either columns false space = tt

none_either : (b : Bool) → cond b (set {A = Cell} [] (0 - 1) blank_cell) [] ≡ []
none_either true = refl
none_either false = refl

proper_front : (columns : ℕ → ℕ) (x : ℕ) (cells : List Cell) → columns 32 ≡ 1 → x ≤ length cells → IsProper columns cells → IsProper columns (front x cells)
proper_front columns zero cells space fits h = subst (IsProper columns) (sym (none_either (is_half (cell_at cells 0)))) tt
proper_front columns (suc x) cells space fits h =
    let b = is_half (cell_at cells (suc x)) in
    subst (IsProper columns) (sym (front_cut (suc x) cells b (omega arith) fits))
    (proper_append columns (cut (suc x) cells) (cond b (blank_cell ∷ []) []) (proper_cut columns (suc x) cells h) (blank_either columns b space))

proper_behind : (columns : ℕ → ℕ) (cells : List Cell) → columns 32 ≡ 1 → IsEnd columns cells → IsProper columns (healed cells)
proper_behind columns [] space h = tt
proper_behind columns (Half ∷ cells) space h = proper_one columns 32 [] plain cells space tt h
proper_behind columns (Holds c js style ∷ cells) space h = h

-- proper cells in a proper row
pub proper_splice : (columns : ℕ → ℕ) (x : ℕ) (new cells : List Cell) → columns 32 ≡ 1 → x ≤ length cells → IsProper columns new → IsProper columns cells → IsProper columns (splice x new cells)
proper_splice columns x new cells space fits h i =
    proper_append columns (front x cells) (new ++ healed (drop (x + length new) cells)) (proper_front columns x cells space fits i)
    (proper_append columns new (healed (drop (x + length new) cells)) h
    (proper_behind columns (drop (x + length new) cells) space (end_drop columns (x + length new) cells (proper_end columns cells i))))

-- ---- texts

join_with : (columns : ℕ → ℕ) (n c : ℕ) (js : List ℕ) → columns c ≡ n → Join columns js → Join columns (joined_with n c js)
join_with columns zero c js is h = (is, h)
join_with columns (suc n) c js is h = tt

join_text : (columns : ℕ → ℕ) (text : List ℕ) → Join columns (joined columns text)
join_text columns [] = tt
join_text columns (c ∷ text) = join_with columns (columns c) c (joined columns text) refl (join_text columns text)

proper_with : (columns : ℕ → ℕ) (style : Style) (n c : ℕ) (js : List ℕ) (cells : List Cell) → columns c ≡ n → Join columns js → IsProper columns cells → IsProper columns (cells_with style n c js cells)
proper_with columns style zero c js cells is join h = h
proper_with columns style (suc zero) c js cells is join h = proper_one columns c (held js) style cells is (AllByRecursion-take (λ d. columns d ≡ 0) 4 js join) h
proper_with columns style (suc (suc n)) c js cells is join h = (omega arith, AllByRecursion-take (λ d. columns d ≡ 0) 4 js join, h)

pub proper_text : (columns : ℕ → ℕ) (style : Style) (text : List ℕ) → IsProper columns (text_cells columns style text)
proper_text columns style [] = tt
proper_text columns style (c ∷ text) =
    proper_with columns style (columns c) c (joined columns text) (text_cells columns style text) refl (join_text columns text) (proper_text columns style text)

pub proper_shortened : (columns : ℕ → ℕ) (style : Style) (n : ℕ) (cells : List Cell) → columns 0x2026 ≡ 1 → IsProper columns cells → IsProper columns (shortened style n cells)
proper_shortened columns style zero cells dots h = subst (IsProper columns) (shortened_none style cells (proper_first columns cells h)) (proper_cut columns 0 cells h)
proper_shortened columns style (suc n) cells dots h = elim (cases_lt (suc n) (length cells)) [
  | inl long ↦
      subst (IsProper columns) (shortened_long style (suc n) cells long (omega arith))
      (proper_append columns (cut (suc n - 1) cells) (cell_of style 0x2026 ∷ []) (proper_cut columns (suc n - 1) cells h) (dots, tt, tt))
  | inr fits ↦ subst (IsProper columns) (shortened_whole style (suc n) cells fits) (proper_cut columns (suc n) cells h)
]

pub space_columns : char_columns 32 ≡ 1
unfolding unicode_width
space_columns = refl

pub proper_blanks : (columns : ℕ → ℕ) (n : ℕ) → columns 32 ≡ 1 → IsProper columns (blank_cells n)
proper_blanks columns zero space = tt
proper_blanks columns (suc n) space = proper_one columns 32 [] plain (blank_cells n) space tt (proper_blanks columns n space)
