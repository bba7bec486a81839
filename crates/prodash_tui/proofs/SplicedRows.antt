-- Rows in which halves of wide characters are blanked, and rows with other cells in them.
use Rattle.std.proofs.Common.{◌≡◌, ℕ, zero, suc, ◌+◌, ◌-◌, ◌<◌, ◌≤◌, Bool, true, false, cond, List, [], ◌∷◌, ◌++◌, length, set, take, drop, replicate, refl, sym, ap, ◌∙◌, append_assoc, length-append, arith}
use Rattle.std.proofs.lemmas.List.{take-append-drop, get_or_at, get_or-append-add, get_or_append_left, get_or-append_right, get_or-take, set-append_left, set_split, take_at, drop_at, drop-drop, drop_more, get_or-drop, length-set, length-drop, length-take-le}
use Rattle.prodash_line.proofs.ErasedRows.{erase_next}
use Rattle.prodash_tui.specs.declared.cell.Cell.{Cell}
use Rattle.prodash_tui.specs.declared.cell.Cell.TheVariants.{Holds, Half}
use Rattle.prodash_tui.specs.Cells.{blank_cell, cell_at, is_half}
use Rattle.prodash_tui.specs.Rows.{front, healed, splice}

-- ---- the cells before a column

pub front_torn : (cells : List Cell) (x : ℕ) → 0 < x → x ≤ length cells → is_half (cell_at cells x) ≡ true → set cells (x - 1) blank_cell ≡ front x cells ++ drop x cells
front_torn cells x some fits half =
    ap (λ (xs : List Cell). set xs (x - 1) blank_cell) (sym (take-append-drop x cells))
    ∙ set-append_left (take x cells) (drop x cells) (x - 1) blank_cell (omega (arith, length-take-le x cells fits))
    ∙ ap (λ (b : Bool). cond b (set (take x cells) (x - 1) blank_cell) (take x cells) ++ drop x cells) (sym half)

pub front_whole : (cells : List Cell) (x : ℕ) → is_half (cell_at cells x) ≡ false → cells ≡ front x cells ++ drop x cells
front_whole cells x whole =
    sym (take-append-drop x cells) ∙ ap (λ (b : Bool). cond b (set (take x cells) (x - 1) blank_cell) (take x cells) ++ drop x cells) (sym whole)

none_either : (b : Bool) (cells : List Cell) → cells ≡ cond b [] [] ++ cells
none_either true cells = refl
none_either false cells = refl

pub front_none : (cells : List Cell) → cells ≡ front 0 cells ++ drop 0 cells
front_none cells = none_either (is_half (cell_at cells 0)) cells

length_either : (b : Bool) (n : ℕ) (xs : List Cell) (k : ℕ) → length xs ≡ n → length (cond b (set xs k blank_cell) xs) ≡ n
length_either true n xs k h = length-set xs k blank_cell ∙ h
length_either false n xs k h = h

pub length-front : (x : ℕ) (cells : List Cell) → x ≤ length cells → length (front x cells) ≡ x
length-front x cells fits = length_either (is_half (cell_at cells x)) x (take x cells) (x - 1) (length-take-le x cells fits)

-- ---- the cells behind a column

healed_half : (h : Cell) (cells : List Cell) → is_half h ≡ true → blank_cell ∷ cells ≡ healed (h ∷ cells)
healed_half (Holds c joined style) cells half = absurd (cc)
healed_half Half cells half = refl

healed_same : (h : Cell) (cells : List Cell) → is_half h ≡ false → h ∷ cells ≡ healed (h ∷ cells)
healed_same (Holds c joined style) cells whole = refl
healed_same Half cells whole = absurd (cc)

healed_all : (cells : List Cell) → is_half (cell_at cells 0) ≡ false → cells ≡ healed cells
healed_all [] whole = refl
healed_all (h ∷ cells) whole = healed_same h cells whole

pub length-healed : (cells : List Cell) → length (healed cells) ≡ length cells
length-healed [] = refl
length-healed (Holds c joined style ∷ cells) = refl
length-healed (Half ∷ cells) = refl

pub healed_torn : (cells : List Cell) (x : ℕ) → x < length cells → is_half (cell_at cells x) ≡ true → set cells x blank_cell ≡ take x cells ++ healed (drop x cells)
healed_torn cells x inside half =
    set_split cells x blank_cell inside
    ∙ ap (λ (n : ℕ). take x cells ++ blank_cell ∷ drop n cells) (let e : suc x ≡ x + 1 = omega arith in e)
    ∙ ap (λ (xs : List Cell). take x cells ++ xs) (healed_half (cell_at cells x) (drop (x + 1) cells) half)
    ∙ ap (λ (xs : List Cell). take x cells ++ healed xs) (sym (drop_more cells x blank_cell inside))

pub healed_whole : (cells : List Cell) (x : ℕ) → is_half (cell_at cells x) ≡ false → cells ≡ take x cells ++ healed (drop x cells)
healed_whole cells x whole =
    sym (take-append-drop x cells)
    ∙ ap (λ (xs : List Cell). take x cells ++ xs)
    (healed_all (drop x cells)
    (ap is_half (get_or-drop x cells 0 blank_cell ∙ ap (λ (n : ℕ). cell_at cells n) (let e : x + 0 ≡ x = omega arith in e)) ∙ whole))

pub whole_healed : (cells : List Cell) → is_half (cell_at (healed cells) 0) ≡ false
whole_healed [] = refl
whole_healed (Holds c joined style ∷ cells) = refl
whole_healed (Half ∷ cells) = refl

healed_again : (cells : List Cell) → healed (healed cells) ≡ healed cells
healed_again cells = sym (healed_all (healed cells) (whole_healed cells))

healed_rest : (k : ℕ) (cells : List Cell) → healed (drop k (healed cells)) ≡ healed (drop k cells)
healed_rest zero cells = healed_again cells
healed_rest (suc k) [] = refl
healed_rest (suc k) (Holds c joined style ∷ cells) = refl
healed_rest (suc k) (Half ∷ cells) = refl

-- ---- rows with other cells in them

pub length-splice : (x : ℕ) (new cells : List Cell) → x + length new ≤ length cells → length (splice x new cells) ≡ length cells
length-splice x new cells fits =
    let healed_rest = healed (drop (x + length new) cells) in
    let all : length (splice x new cells) ≡ length (front x cells) + length (new ++ healed_rest) = length-append (front x cells) (new ++ healed_rest) in
    let rest : length (new ++ healed_rest) ≡ length new + length healed_rest = length-append new healed_rest in
    let behind : length healed_rest ≡ length (drop (x + length new) cells) = length-healed (drop (x + length new) cells) in
    let dropped : length (drop (x + length new) cells) ≡ length cells - (x + length new) = length-drop (x + length new) cells in
    omega (arith, length-front x cells (omega arith))

-- a row that is split where its halves are blanked
pub length-split : (x : ℕ) (cells : List Cell) → x ≤ length cells → length (front x cells ++ drop x cells) ≡ length cells
length-split x cells fits =
    let all : length (front x cells ++ drop x cells) ≡ length (front x cells) + length (drop x cells) = length-append (front x cells) (drop x cells) in
    omega (arith, length-front x cells fits, length-drop x cells)

-- cells behind others
pub splice_more : (x : ℕ) (a b cells : List Cell) → x ≤ length cells → splice (x + length a) b (splice x a cells) ≡ splice x (a ++ b) cells
splice_more x a b cells fits =
    let n = x + length a in
    let before = front x cells ++ a in
    let rest = drop n cells in
    let row = splice x a cells in
    let size : length before ≡ n = length-append (front x cells) a ∙ ap (λ (m : ℕ). m + length a) (length-front x cells fits) in
    let parts : row ≡ before ++ healed rest = sym (append_assoc (front x cells) a (healed rest)) in
    let first : cell_at row n ≡ cell_at (healed rest) 0 =
    ap (λ (cs : List Cell). cell_at cs n) parts ∙ ap (λ (m : ℕ). cell_at (before ++ healed rest) m) (let e : n ≡ length before + 0 = omega arith in e) ∙ get_or-append-add before (healed rest) 0 blank_cell in
    let kept : front n row ≡ before =
    ap (λ (b : Bool). cond b (set (take n row) (n - 1) blank_cell) (take n row)) (ap is_half first ∙ whole_healed rest)
    ∙ ap (take n) parts ∙ take_at before (healed rest) n size in
    let behind : drop (n + length b) row ≡ drop (length b) (healed rest) =
    sym (drop-drop (length b) n row) ∙ ap (λ (cs : List Cell). drop (length b) cs) (ap (drop n) parts ∙ drop_at before (healed rest) n size) in
    let same : drop (length b) rest ≡ drop (x + length (a ++ b)) cells =
    drop-drop (length b) n cells ∙ ap (λ (m : ℕ). drop m cells) (let e : n + length b ≡ x + length (a ++ b) = omega (arith, length-append a b) in e) in
    ap (λ (cs : List Cell). cs ++ (b ++ healed (drop (n + length b) row))) kept
    ∙ ap (λ (cs : List Cell). before ++ (b ++ healed cs)) behind
    ∙ ap (λ (cs : List Cell). before ++ (b ++ cs)) (healed_rest (length b) rest ∙ ap healed same)
    ∙ append_assoc (front x cells) a (b ++ healed (drop (x + length (a ++ b)) cells))
    ∙ ap (λ (cs : List Cell). front x cells ++ cs) (sym (append_assoc a b (healed (drop (x + length (a ++ b)) cells))))

-- cells in a row that ends in one that is healed
pub splice_at : (before new rest : List Cell) → splice (length before) new (before ++ healed rest) ≡ (before ++ new) ++ healed (drop (length new) rest)
splice_at before new rest =
    let n = length before in
    let row = before ++ healed rest in
    let first : cell_at row n ≡ cell_at (healed rest) 0 =
    ap (λ (m : ℕ). cell_at row m) (let e : n ≡ length before + 0 = omega arith in e) ∙ get_or-append-add before (healed rest) 0 blank_cell in
    let kept : front n row ≡ before =
    ap (λ (b : Bool). cond b (set (take n row) (n - 1) blank_cell) (take n row)) (ap is_half first ∙ whole_healed rest) ∙ take_at before (healed rest) n refl in
    let behind : drop (n + length new) row ≡ drop (length new) (healed rest) =
    sym (drop-drop (length new) n row) ∙ ap (λ (cs : List Cell). drop (length new) cs) (drop_at before (healed rest) n refl) in
    ap (λ (cs : List Cell). cs ++ (new ++ healed (drop (n + length new) row))) kept
    ∙ ap (λ (cs : List Cell). before ++ (new ++ healed cs)) behind
    ∙ ap (λ (cs : List Cell). before ++ (new ++ cs)) (healed_rest (length new) rest)
    ∙ sym (append_assoc before new (healed (drop (length new) rest)))

-- cells in place of as many others, of which the first is no half
pub splice_again : (x : ℕ) (h : Cell) (a b cells : List Cell) → x ≤ length cells → is_half h ≡ false → length (h ∷ a) ≡ length b
    → splice x b (splice x (h ∷ a) cells) ≡ splice x b cells
splice_again x h a b cells fits whole size =
    let before = front x cells in
    let rest = drop (x + length (h ∷ a)) cells in
    let others = a ++ healed rest in
    let row = splice x (h ∷ a) cells in
    let n : length before ≡ x = length-front x cells fits in
    let first : cell_at row x ≡ h = get_or_at before h others blank_cell x n in
    let kept : front x row ≡ before =
    ap (λ (t : Bool). cond t (set (take x row) (x - 1) blank_cell) (take x row)) (ap is_half first ∙ whole) ∙ take_at before (h ∷ others) x n in
    let behind : drop (x + length b) row ≡ healed rest =
    sym (drop-drop (length b) x row) ∙ ap (drop (length b)) (drop_at before (h ∷ others) x n) ∙ drop_at (h ∷ a) (healed rest) (length b) size in
    ap (λ (cs : List Cell). cs ++ (b ++ healed (drop (x + length b) row))) kept
    ∙ ap (λ (cs : List Cell). before ++ (b ++ healed cs)) behind
    ∙ ap (λ (cs : List Cell). before ++ (b ++ cs)) (healed_again rest)
    ∙ ap (λ (k : ℕ). before ++ (b ++ healed (drop (x + k) cells))) size

-- ---- the cells of such rows

front_same : (x : ℕ) (cells : List Cell) → is_half (cell_at cells x) ≡ false → front x cells ≡ take x cells
front_same x cells whole = ap (λ (b : Bool). cond b (set (take x cells) (x - 1) blank_cell) (take x cells)) whole

-- those before the column
pub splice_before : (x : ℕ) (new cells : List Cell) (k : ℕ) → x ≤ length cells → is_half (cell_at cells x) ≡ false → k < x → cell_at (splice x new cells) k ≡ cell_at cells k
splice_before x new cells k fits whole lt =
    get_or_append_left (front x cells) (new ++ healed (drop (x + length new) cells)) blank_cell k (omega (arith, length-front x cells fits))
    ∙ ap (λ (cs : List Cell). cell_at cs k) (front_same x cells whole)
    ∙ get_or-take x cells k blank_cell lt

healed_others : (cells : List Cell) (k : ℕ) → 0 < k → cell_at (healed cells) k ≡ cell_at cells k
healed_others cells zero some = absurd (omega arith)
healed_others [] (suc k) some = refl
healed_others (Holds c joined style ∷ cells) (suc k) some = refl
healed_others (Half ∷ cells) (suc k) some = refl

healed_either : (cells : List Cell) (k : ℕ) → (k ≡ 0 → is_half (cell_at cells 0) ≡ false) → cell_at (healed cells) k ≡ cell_at cells k
healed_either cells zero whole = ap (λ (cs : List Cell). cell_at cs 0) (sym (healed_all cells (whole refl)))
healed_either cells (suc k) whole = healed_others cells (suc k) (omega arith)

-- those behind the new ones
pub splice_behind : (x : ℕ) (new cells : List Cell) (k : ℕ) → x ≤ length cells → x + length new ≤ k → (k ≡ x + length new → is_half (cell_at cells k) ≡ false)
    → cell_at (splice x new cells) k ≡ cell_at cells k
splice_behind x new cells k fits le whole =
    let n = x + length new in
    let before = front x cells ++ new in
    let rest = drop n cells in
    let size : length before ≡ n = length-append (front x cells) new ∙ ap (λ (m : ℕ). m + length new) (length-front x cells fits) in
    let at : cell_at rest (k - n) ≡ cell_at cells k = get_or-drop n cells (k - n) blank_cell ∙ ap (λ (m : ℕ). cell_at cells m) (let e : n + (k - n) ≡ k = omega arith in e) in
    ap (λ (cs : List Cell). cell_at cs k) (sym (append_assoc (front x cells) new (healed rest)))
    ∙ get_or-append_right before (healed rest) n k blank_cell size le
    ∙ healed_either rest (k - n) (λ (e : k - n ≡ 0). ap (λ (m : ℕ). is_half (cell_at rest m)) (sym e) ∙ ap is_half at ∙ whole (omega arith))
    ∙ at

-- the new ones
pub splice_new : (x : ℕ) (new cells : List Cell) → x ≤ length cells → take (length new) (drop x (splice x new cells)) ≡ new
splice_new x new cells fits =
    let rest = healed (drop (x + length new) cells) in
    ap (take (length new)) (drop_at (front x cells) (new ++ rest) x (length-front x cells fits)) ∙ take_at new rest (length new) refl

-- ---- lists whose elements are blanked one after another

pub blank_next : {X : Type 0} (k : ℕ) (xs : List X) (blank : X) → k < length xs → set (replicate k blank ++ drop k xs) k blank ≡ replicate (k + 1) blank ++ drop (k + 1) xs
blank_next {X} k xs blank inside =
    ap (λ (n : ℕ). set (replicate n blank ++ drop k xs) k blank) (let e : k ≡ k - 0 = omega arith in e)
    ∙ erase_next 0 k xs blank (omega arith) inside
    ∙ ap (λ (n : ℕ). replicate n blank ++ drop (k + 1) xs) (let e : k + 1 - 0 ≡ k + 1 = omega arith in e)
