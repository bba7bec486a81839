-- Texts of printable ASCII, each character of which has one cell.
use Rattle.std.proofs.Common.{◌≡◌, ℕ, zero, suc, ◌+◌, ◌-◌, ◌<◌, ◌≤◌, Bool, true, false, cond, List, [], ◌∷◌, ◌++◌, length, map, set, get_or, take, drop, inl, inr, refl, sym, ap, ◌∙◌, append_assoc, length-append, arith}
use Rattle.std.specs.Int.{is_in_range}
use Rattle.std.specs.Prelude.{min}
use Rattle.std.proofs.lemmas.Bool.{and_parts, cases_lt}
use Rattle.std.proofs.lemmas.Bool.Decides.{nat_tests}
use Rattle.std.proofs.lemmas.List.{drop-drop, drop_at, drop_more, get_or_past, length-map, length-take-le, map_more, set_at, take-map, take_all, take_at}
use Rattle.prodash_line.specs.CellRows.{char_columns, joined, joined_with, text_columns}
use Rattle.prodash_line.specs.DrawnLines.{safe_char}
use Rattle.prodash_line.specs.plumbing.Writing.{is_printable}
use Rattle.prodash_line.proofs.Columns.{chars-printable}
use Rattle.prodash_tui.specs.declared.cell.Cell.{Cell}
use Rattle.prodash_tui.specs.declared.cell.Cell.TheVariants.{Holds}
use Rattle.prodash_tui.specs.declared.style.Style.{Style}
use Rattle.prodash_tui.specs.Cells.{blank_cell, cell_at, cell_of, held, is_half}
use Rattle.prodash_tui.specs.Rows.{front, healed, splice}
use Rattle.prodash_tui.specs.Texts.{cells_with, cut, drawn_text, text_cells, text_cut}
use Rattle.prodash_tui.proofs.PrintableChars.{one_column, printable_as_drawn}
use Rattle.prodash_tui.proofs.SplicedRows.{length-front}

-- ---- the cells of such texts

low : (c : ℕ) → is_in_range 0x20 0x7E c ≡ true → 32 ≤ c
low c h = grind (arith, nat_tests, h)

high : (c : ℕ) → is_in_range 0x20 0x7E c ≡ true → c ≤ 126
high c h = grind (arith, nat_tests, h)

single : (c : ℕ) → is_in_range 0x20 0x7E c ≡ true → char_columns c ≡ 1
single c h = one_column c (low c h) (high c h)

as_drawn : (text : List ℕ) → is_printable text ≡ true → map safe_char text ≡ text
as_drawn [] h = refl
as_drawn (c ∷ text) h =
    let parts = and_parts (is_in_range 0x20 0x7E c) (is_printable text) h in
    (λ i. sym (printable_as_drawn c (low c parts.0) (high c parts.0)) i ∷ as_drawn text parts.1 i)

none_joined : (text : List ℕ) → is_printable text ≡ true → joined char_columns text ≡ []
none_joined [] h = refl
none_joined (c ∷ text) h =
    ap (λ (n : ℕ). joined_with n c (joined char_columns text)) (single c (and_parts (is_in_range 0x20 0x7E c) (is_printable text) h).0)

one_each : (style : Style) (text : List ℕ) → is_printable text ≡ true → text_cells char_columns style text ≡ map (cell_of style) text
one_each style [] h = refl
one_each style (c ∷ text) h =
    let parts = and_parts (is_in_range 0x20 0x7E c) (is_printable text) h in
    ap (λ (n : ℕ). cells_with style n c (joined char_columns text) (text_cells char_columns style text)) (single c parts.0)
    ∙ (λ i. Holds c (held (none_joined text parts.1 i)) style ∷ one_each style text parts.1 i)

no_half : (style : Style) (text : List ℕ) (k : ℕ) → is_half (cell_at (map (cell_of style) text) k) ≡ false
no_half style [] k = ap is_half (get_or_past [] k blank_cell (omega arith))
no_half style (c ∷ text) zero = refl
no_half style (c ∷ text) (suc k) = no_half style text k

-- each character is a column
columns_each : (text : List ℕ) → is_printable text ≡ true → text_columns char_columns text ≡ length text
columns_each [] h = refl
columns_each (c ∷ text) h =
    let parts = and_parts (is_in_range 0x20 0x7E c) (is_printable text) h in
    omega (arith, single c parts.0, columns_each text parts.1)

pub columns_of_printable : (text : List ℕ) → is_printable text ≡ true → text_columns char_columns (drawn_text text) ≡ length text
columns_of_printable text h =
    ap (λ (t : List ℕ). text_columns char_columns (map safe_char t)) (chars-printable text h)
    ∙ ap (text_columns char_columns) (as_drawn text h)
    ∙ columns_each text h

-- those that have room
pub printable_cut : (style : Style) (n : ℕ) (text : List ℕ) → is_printable text ≡ true → map (cell_of style) (take n text) ≡ text_cut style n text
printable_cut style n text h =
    let cells = map (cell_of style) text in
    sym (ap (λ (t : List ℕ). cut n (text_cells char_columns style (map safe_char t))) (chars-printable text h)
    ∙ ap (λ (t : List ℕ). cut n (text_cells char_columns style t)) (as_drawn text h)
    ∙ ap (cut n) (one_each style text h)
    ∙ ap (λ (b : Bool). cond b (take (n - 1) cells) (take n cells)) (no_half style text n)
    ∙ take-map (cell_of style) n text)

-- ---- writing them into a row

-- as many as there are
pub take_fewer : (n m : ℕ) (text : List ℕ) → n ≡ min (length text) m → take n text ≡ take m text
take_fewer n m text is = elim (cases_lt m (length text)) [
  | inl less ↦ ap (λ (k : ℕ). take k text) (let e : n ≡ m = omega arith in e)
  | inr all ↦ take_all n text (omega arith) ∙ sym (take_all m text all)
]

-- one more character
pub next_written : (x k : ℕ) (f : ℕ → Cell) (text : List ℕ) (cells : List Cell) → k < length text → x + k < length cells
    → set (take x cells ++ (map f (take k text) ++ drop (x + k) cells)) (x + k) (f (get_or text k 0))
    ≡ take x cells ++ (map f (take (k + 1) text) ++ drop (x + (k + 1)) cells)
next_written x k f text cells inside within =
    let old = cell_at cells (x + k) in
    let c = get_or text k 0 in
    let some = map f (take k text) in
    let before = take x cells ++ some in
    let rest = drop (x + k + 1) cells in
    let size : length before ≡ length (take x cells) + length some = length-append (take x cells) some in
    let first : length (take x cells) ≡ x = length-take-le x cells (omega arith) in
    let mapped : length some ≡ length (take k text) = length-map (take k text) f in
    let taken : length (take k text) ≡ k = length-take-le k text (omega arith) in
    ap (λ (cs : List Cell). set cs (x + k) (f c)) (sym (append_assoc (take x cells) some (drop (x + k) cells)) ∙ ap (λ (cs : List Cell). before ++ cs) (drop_more cells (x + k) blank_cell within))
    ∙ set_at before old rest (f c) (x + k) (omega arith)
    ∙ append_assoc (take x cells) some (f c ∷ rest)
    ∙ ap (λ (cs : List Cell). take x cells ++ cs) (sym (append_assoc some (f c ∷ []) rest) ∙ ap (λ (cs : List Cell). cs ++ rest) (sym (map_more f text k 0 inside)))
    ∙ ap (λ (m : ℕ). take x cells ++ (map f (take (k + 1) text) ++ drop m cells)) (let e : x + k + 1 ≡ x + (k + 1) = omega arith in e)

-- the row with what they tear blanked
pub printed_row : (x : ℕ) (new cells : List Cell) → x + length new ≤ length cells
    → (row : List Cell) → row ≡ take x (front x cells ++ drop x cells) ++ (new ++ drop (x + length new) (front x cells ++ drop x cells))
    → take (x + length new) row ++ healed (drop (x + length new) row) ≡ splice x new cells
printed_row x new cells fits row is =
    let before = front x cells in
    let n = x + length new in
    let rest = drop n cells in
    let split = before ++ drop x cells in
    let width : length before ≡ x = length-front x cells (omega arith) in
    let behind : drop n split ≡ rest =
    sym (drop-drop (length new) x split)
    ∙ ap (drop (length new)) (drop_at before (drop x cells) x width)
    ∙ drop-drop (length new) x cells in
    let size : length (before ++ new) ≡ n = length-append before new ∙ ap (λ (m : ℕ). m + length new) width in
    let whole : row ≡ (before ++ new) ++ rest =
    is ∙ (λ i. take_at before (drop x cells) x width i ++ (new ++ behind i)) ∙ sym (append_assoc before new rest) in
    ap (λ (cs : List Cell). take n cs ++ healed (drop n cs)) whole
    ∙ ap (λ (cs : List Cell). cs ++ healed (drop n ((before ++ new) ++ rest))) (take_at (before ++ new) rest n size)
    ∙ ap (λ (cs : List Cell). (before ++ new) ++ healed cs) (drop_at (before ++ new) rest n size)
    ∙ append_assoc before new (healed rest)
