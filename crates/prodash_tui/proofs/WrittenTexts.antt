-- A text that is written character by character leaves its cells, cut to the room.
use Rattle.std.proofs.Common.{◌≡◌, ℕ, zero, suc, ◌+◌, ◌-◌, ◌<◌, ◌≤◌, Bool, true, false, cond, List, [], ◌∷◌, ◌++◌, Option, Some, None, length, set, take, drop, refl, sym, ap, subst, ◌∙◌, append_assoc, length-append, arith}
use Rattle.std.specs.Prelude.{min, nat_le}
use Rattle.std.proofs.lemmas.Bool.Decides.{nat_tests}
use Rattle.std.proofs.lemmas.List.{append-nil, get_or_at, set_at, take_at, get_or_past, take_all, drop_at, drop-drop, length-take, length-drop, length_push}
use Rattle.unicode_width.proofs.Computing.{unicode_width}
use Rattle.prodash_line.specs.CellRows.{char_columns, joined, joined_with, text_columns}
use Rattle.prodash_tui.specs.declared.cell.Cell.{Cell}
use Rattle.prodash_tui.specs.declared.cell.Cell.TheVariants.{Holds, Half}
use Rattle.prodash_tui.specs.declared.row.Pen.{Pen}
use Rattle.prodash_tui.specs.declared.style.Style.{Style}
use Rattle.prodash_tui.specs.Cells.{blank_cell, cell_of, cell_at, is_half, held, joined_by}
use Rattle.prodash_tui.specs.Rows.{front, healed, splice}
use Rattle.prodash_tui.specs.Texts.{cells_with, text_cells, cut, shortened, filling}
use Rattle.prodash_tui.proofs.SplicedRows.{length-front}
use Rattle.prodash_tui.specs.plumbing.Writing.{pen_at, join_last, after_char, after_text}

-- ---- the cells of a text, cut

-- the cells of a text begin with no second half
abbrev pub IsWhole : List Cell → Type 0
IsWhole cells = is_half (cell_at cells 0) ≡ false

whole_with : (style : Style) (n c : ℕ) (js : List ℕ) (cells : List Cell) → IsWhole cells → IsWhole (cells_with style n c js cells)
whole_with style zero c js cells h = h
whole_with style (suc zero) c js cells h = refl
whole_with style (suc (suc n)) c js cells h = refl

pub whole_text : (columns : ℕ → ℕ) (style : Style) (text : List ℕ) → is_half (cell_at (text_cells columns style text) 0) ≡ false
whole_text columns style [] = refl
whole_text columns style (c ∷ text) = whole_with style (columns c) c (joined columns text) (text_cells columns style text) (whole_text columns style text)

pub cut_none : (cells : List Cell) → IsWhole cells → cut 0 cells ≡ []
cut_none cells h = ap (λ (b : Bool). cond b (take (0 - 1) cells) (take 0 cells)) h

cut_last : (x : Cell) (cells : List Cell) → IsWhole cells → cut 1 (x ∷ cells) ≡ x ∷ cut 0 cells
cut_last x cells h = ap (λ (b : Bool). cond b (take (1 - 1) (x ∷ cells)) (take 1 (x ∷ cells))) h ∙ ap (λ (xs : List Cell). x ∷ xs) (sym (cut_none cells h))

cut_either : (b : Bool) (n : ℕ) (x : Cell) (cells : List Cell) → cond b (x ∷ take n cells) (x ∷ take (suc n) cells) ≡ x ∷ cond b (take n cells) (take (suc n) cells)
cut_either true n x cells = refl
cut_either false n x cells = refl

cut_more : (n : ℕ) (x : Cell) (cells : List Cell) → cut (suc (suc n)) (x ∷ cells) ≡ x ∷ cut (suc n) cells
cut_more n x cells =
    let b = is_half (cell_at cells (suc n)) in
    ap (λ (m : ℕ). cond b (take m (x ∷ cells)) (x ∷ take (suc n) cells)) (let e : suc (suc n) - 1 ≡ suc n = omega arith in e)
    ∙ cut_either b n x cells
    ∙ ap (λ (m : ℕ). x ∷ cond b (take m cells) (take (suc n) cells)) (let e : n ≡ suc n - 1 = omega arith in e)

pub cut_one : (n : ℕ) (x : Cell) (cells : List Cell) → IsWhole cells → cut (suc n) (x ∷ cells) ≡ x ∷ cut n cells
cut_one zero x cells h = cut_last x cells h
cut_one (suc n) x cells h = cut_more n x cells

pub cut_two : (n : ℕ) (x : Cell) (cells : List Cell) → IsWhole cells → cut (suc (suc n)) (x ∷ Half ∷ cells) ≡ x ∷ Half ∷ cut n cells
cut_two n x cells h = cut_more n x (Half ∷ cells) ∙ ap (λ (xs : List Cell). x ∷ xs) (cut_one n Half cells h)

-- ---- what is written

-- a state of writing in which these cells are written behind others
record Ends (pre new post : List Cell) (s : List Cell × Pen) : Type 0 where
  pub cells : s.0 ≡ pre ++ (new ++ drop (length new) post)
  pub at : s.1.at ≡ length pre + length new

grow : (pre new post : List Cell) (h x : Cell) (s : List Cell × Pen) → Ends (pre ++ h ∷ []) new post s → Ends pre (h ∷ new) (x ∷ post) s
grow pre new post h x s e = record {
  cells = e.cells ∙ append_assoc pre (h ∷ []) (new ++ drop (length new) post);
  at = let size : length (pre ++ h ∷ []) ≡ length pre + 1 = length_push pre h in omega (arith, e.at);
}

grow_two : (pre new post : List Cell) (h x y : Cell) (s : List Cell × Pen) → Ends (pre ++ h ∷ Half ∷ []) new post s → Ends pre (h ∷ Half ∷ new) (x ∷ y ∷ post) s
grow_two pre new post h x y s e = record {
  cells = e.cells ∙ append_assoc pre (h ∷ Half ∷ []) (new ++ drop (length new) post);
  at = let size : length (pre ++ h ∷ Half ∷ []) ≡ length pre + length (h ∷ Half ∷ []) = length-append pre (h ∷ Half ∷ []) in omega (arith, e.at);
}

-- a pen
abbrev pen_of : ℕ → ℕ → Option ℕ → Pen
pen_of a e last = record { at = a; end = e; last = last }

-- the second half of a character, if it is wide
abbrev half : Bool → List Cell
half false = []
half true = Half ∷ []

-- what is written where no character has been written yet, or no more
abbrev Begins : (ℕ → ℕ) → Style → List ℕ → Type 0
Begins columns style text = (pre post : List Cell) (room a e : ℕ) → a ≡ length pre → e ≡ a + room → room ≤ length post
    → Ends pre (cut room (text_cells columns style text)) post (after_text columns style text (pre ++ post, pen_of a e None))

-- what is written behind a character
abbrev Follows : (ℕ → ℕ) → Style → List ℕ → Type 0
Follows columns style text = (p : List Cell) (d : ℕ) (js : List ℕ) (w : Bool) (post : List Cell) (room a e k : ℕ)
    → held js ≡ js → a ≡ length (p ++ Holds d js style ∷ half w) → e ≡ a + room → k ≡ length p → room ≤ length post
    → Ends (p ++ Holds d (held (js ++ joined columns text)) style ∷ half w) (cut room (text_cells columns style text)) post
    (after_text columns style text ((p ++ Holds d js style ∷ half w) ++ post, pen_of a e (Some k)))

le_true : (m n : ℕ) → m ≤ n → nat_le m n ≡ true
le_true m n h = grind (arith, nat_tests)

le_false : (m n : ℕ) → n < m → nat_le m n ≡ false
le_false m n h = grind (arith, nat_tests)

-- a wide character that has no room
no_room_for_two : (columns : ℕ → ℕ) (style : Style) (n c : ℕ) (text : List ℕ) → Begins columns style text
    → (pre post : List Cell) (a e : ℕ) (last : Option ℕ) → a ≡ length pre → e < a + 2
    → Ends pre [] post (after_text columns style text (after_char style (suc (suc n)) c (pre ++ post, pen_of a e last)))
no_room_for_two columns style n c text begins pre post a e last at end =
    let full_at : after_char style (suc (suc n)) c (pre ++ post, pen_of a e last) ≡ (pre ++ post, pen_of a a None) =
    ap (λ (b : Bool). cond b (set (set (pre ++ post) a (cell_of style c)) (a + 1) Half, pen_of (a + 2) e (Some a)) (pre ++ post, pen_of a a None)) (le_false (a + 2) e end) in
    subst (λ (s : List Cell × Pen). Ends pre [] post (after_text columns style text s)) (sym full_at)
    (subst (λ (new : List Cell). Ends pre new post (after_text columns style text (pre ++ post, pen_of a a None)))
    (cut_none (text_cells columns style text) (whole_text columns style text))
    (begins pre post 0 a a at (omega arith) (omega arith)))

-- a character of one column
write_one : (columns : ℕ → ℕ) (style : Style) (c : ℕ) (text : List ℕ) → Begins columns style text → Follows columns style text
    → (pre post : List Cell) (room a e : ℕ) (last : Option ℕ) → a ≡ length pre → e ≡ a + room → room ≤ length post
    → Ends pre (cut room (cells_with style 1 c (joined columns text) (text_cells columns style text))) post
    (after_text columns style text (after_char style 1 c (pre ++ post, pen_of a e last)))
write_one columns style c text begins follows pre post zero a e last at end fits =
    let full_at : after_char style 1 c (pre ++ post, pen_of a e last) ≡ (pre ++ post, pen_of a a None) =
    ap (λ (b : Bool). cond b (set (pre ++ post) a (cell_of style c), pen_of (a + 1) e (Some a)) (pre ++ post, pen_of a a None)) (le_false (a + 1) e (omega arith)) in
    subst (λ (s : List Cell × Pen). Ends pre [] post (after_text columns style text s)) (sym full_at)
    (subst (λ (new : List Cell). Ends pre new post (after_text columns style text (pre ++ post, pen_of a a None)))
    (cut_none (text_cells columns style text) (whole_text columns style text))
    (begins pre post 0 a a at (omega arith) (omega arith)))
write_one columns style c text begins follows pre [] (suc room) a e last at end fits = absurd (omega arith)
write_one columns style c text begins follows pre (x ∷ post) (suc room) a e last at end fits =
    let js = joined columns text in
    let cells = text_cells columns style text in
    let written : after_char style 1 c (pre ++ x ∷ post, pen_of a e last) ≡ ((pre ++ cell_of style c ∷ []) ++ post, pen_of (a + 1) e (Some a)) =
    ap (λ (b : Bool). cond b (set (pre ++ x ∷ post) a (cell_of style c), pen_of (a + 1) e (Some a)) (pre ++ x ∷ post, pen_of a a None)) (le_true (a + 1) e (omega arith))
    ∙ ap (λ (xs : List Cell). let s : List Cell × Pen = (xs, pen_of (a + 1) e (Some a)) in s)
    (set_at pre x post (cell_of style c) a (sym at) ∙ sym (append_assoc pre (cell_of style c ∷ []) post)) in
    let rest = follows pre c [] false post room (a + 1) e a refl (omega (arith, length_push pre (cell_of style c))) (omega arith) at (omega arith) in
    subst (λ (s : List Cell × Pen). Ends pre (cut (suc room) (Holds c (held js) style ∷ cells)) (x ∷ post) (after_text columns style text s)) (sym written)
    (subst (λ (new : List Cell). Ends pre new (x ∷ post) (after_text columns style text ((pre ++ cell_of style c ∷ []) ++ post, pen_of (a + 1) e (Some a))))
    (sym (cut_one room (Holds c (held js) style) cells (whole_text columns style text)))
    (grow pre (cut room cells) post (Holds c (held js) style) x _ rest))

-- a wide character
write_two : (columns : ℕ → ℕ) (style : Style) (n c : ℕ) (text : List ℕ) → Begins columns style text → Follows columns style text
    → (pre post : List Cell) (room a e : ℕ) (last : Option ℕ) → a ≡ length pre → e ≡ a + room → room ≤ length post
    → Ends pre (cut room (cells_with style (suc (suc n)) c (joined columns text) (text_cells columns style text))) post
    (after_text columns style text (after_char style (suc (suc n)) c (pre ++ post, pen_of a e last)))
write_two columns style n c text begins follows pre post zero a e last at end fits =
    no_room_for_two columns style n c text begins pre post a e last at (omega arith)
write_two columns style n c text begins follows pre post (suc zero) a e last at end fits =
    no_room_for_two columns style n c text begins pre post a e last at (omega arith)
write_two columns style n c text begins follows pre [] (suc (suc room)) a e last at end fits = absurd (omega arith)
write_two columns style n c text begins follows pre (x ∷ []) (suc (suc room)) a e last at end fits = absurd (omega arith)
write_two columns style n c text begins follows pre (x ∷ y ∷ post) (suc (suc room)) a e last at end fits =
    let js = joined columns text in
    let cells = text_cells columns style text in
    let first = cell_of style c in
    let pen = pen_of (a + 2) e (Some a) in
    let written : after_char style (suc (suc n)) c (pre ++ x ∷ y ∷ post, pen_of a e last) ≡ ((pre ++ first ∷ Half ∷ []) ++ post, pen) =
    ap (λ (b : Bool). cond b (set (set (pre ++ x ∷ y ∷ post) a first) (a + 1) Half, pen) (pre ++ x ∷ y ∷ post, pen_of a a None)) (le_true (a + 2) e (omega arith))
    ∙ ap (λ (xs : List Cell). let s : List Cell × Pen = (xs, pen) in s)
    (ap (λ (xs : List Cell). set xs (a + 1) Half) (set_at pre x (y ∷ post) first a (sym at) ∙ sym (append_assoc pre (first ∷ []) (y ∷ post)))
    ∙ set_at (pre ++ first ∷ []) y post Half (a + 1) (omega (arith, length_push pre first))
    ∙ append_assoc pre (first ∷ []) (Half ∷ post)
    ∙ sym (append_assoc pre (first ∷ Half ∷ []) post)) in
    let rest = follows pre c [] true post room (a + 2) e a refl (omega (arith, length-append pre (first ∷ Half ∷ []))) (omega arith) at (omega arith) in
    subst (λ (s : List Cell × Pen). Ends pre (cut (suc (suc room)) (Holds c (held js) style ∷ Half ∷ cells)) (x ∷ y ∷ post) (after_text columns style text s)) (sym written)
    (subst (λ (new : List Cell). Ends pre new (x ∷ y ∷ post) (after_text columns style text ((pre ++ first ∷ Half ∷ []) ++ post, pen)))
    (sym (cut_two room (Holds c (held js) style) cells (whole_text columns style text)))
    (grow_two pre (cut room cells) post (Holds c (held js) style) x y _ rest))

-- a character of so many columns, which at least one
write_some : (columns : ℕ → ℕ) (style : Style) (n c : ℕ) (text : List ℕ) → Begins columns style text → Follows columns style text
    → (pre post : List Cell) (room a e : ℕ) (last : Option ℕ) → a ≡ length pre → e ≡ a + room → room ≤ length post
    → Ends pre (cut room (cells_with style (suc n) c (joined columns text) (text_cells columns style text))) post
    (after_text columns style text (after_char style (suc n) c (pre ++ post, pen_of a e last)))
write_some columns style zero c text = write_one columns style c text
write_some columns style (suc n) c text = write_two columns style n c text

-- a character of no column joins the last one
join_behind : (p : List Cell) (d : ℕ) (js : List ℕ) (style : Style) (w : Bool) (post : List Cell) (c k : ℕ) → k ≡ length p
    → join_last (Some k) c ((p ++ Holds d js style ∷ half w) ++ post) ≡ (p ++ Holds d (held (js ++ c ∷ [])) style ∷ half w) ++ post
join_behind p d js style w post c k at =
    let cells = (p ++ Holds d js style ∷ half w) ++ post in
    let parts : cells ≡ p ++ Holds d js style ∷ (half w ++ post) = append_assoc p (Holds d js style ∷ half w) post in
    ap (λ (xs : List Cell). set xs k (joined_by c (cell_at xs k))) parts
    ∙ ap (λ (x : Cell). set (p ++ Holds d js style ∷ (half w ++ post)) k (joined_by c x)) (get_or_at p (Holds d js style) (half w ++ post) blank_cell k (sym at))
    ∙ set_at p (Holds d js style) (half w ++ post) (Holds d (held (js ++ c ∷ [])) style) k (sym at)
    ∙ sym (append_assoc p (Holds d (held (js ++ c ∷ [])) style ∷ half w) post)

-- characters that are held, and then others
held_held : (js others : List ℕ) → held (held js ++ others) ≡ held (js ++ others)
held_held [] others = refl
held_held (a ∷ []) others = refl
held_held (a ∷ b ∷ []) others = refl
held_held (a ∷ b ∷ c ∷ []) others = refl
held_held (a ∷ b ∷ c ∷ d ∷ []) others = refl
held_held (a ∷ b ∷ c ∷ d ∷ e ∷ js) others = refl

held_again : (js : List ℕ) → held (held js) ≡ held js
held_again js = ap held (sym (append-nil (held js))) ∙ held_held js [] ∙ ap held (append-nil js)

-- the text from a character of so many columns on, where none has been written
begin_with : (columns : ℕ → ℕ) (style : Style) (n c : ℕ) (text : List ℕ) → Begins columns style text → Follows columns style text
    → (pre post : List Cell) (room a e : ℕ) → a ≡ length pre → e ≡ a + room → room ≤ length post
    → Ends pre (cut room (cells_with style n c (joined columns text) (text_cells columns style text))) post
    (after_text columns style text (after_char style n c (pre ++ post, pen_of a e None)))
begin_with columns style zero c text begins follows pre post room a e at end fits = begins pre post room a e at end fits
begin_with columns style (suc n) c text begins follows pre post room a e at end fits =
    write_some columns style n c text begins follows pre post room a e None at end fits

-- the text from a character of so many columns on, behind another
follow_with : (columns : ℕ → ℕ) (style : Style) (n c : ℕ) (text : List ℕ) → Begins columns style text → Follows columns style text
    → (p : List Cell) (d : ℕ) (js : List ℕ) (w : Bool) (post : List Cell) (room a e k : ℕ)
    → held js ≡ js → a ≡ length (p ++ Holds d js style ∷ half w) → e ≡ a + room → k ≡ length p → room ≤ length post
    → Ends (p ++ Holds d (held (js ++ joined_with n c (joined columns text))) style ∷ half w)
    (cut room (cells_with style n c (joined columns text) (text_cells columns style text))) post
    (after_text columns style text (after_char style n c ((p ++ Holds d js style ∷ half w) ++ post, pen_of a e (Some k))))
follow_with columns style zero c text begins follows p d js w post room a e k few at end last fits =
    let more = held (js ++ c ∷ []) in
    let size : length (p ++ Holds d js style ∷ half w) ≡ length p + length (Holds d js style ∷ half w) = length-append p (Holds d js style ∷ half w) in
    let size_after : length (p ++ Holds d more style ∷ half w) ≡ length p + length (Holds d more style ∷ half w) = length-append p (Holds d more style ∷ half w) in
    let all : held (more ++ joined columns text) ≡ held (js ++ c ∷ joined columns text) =
    held_held (js ++ c ∷ []) (joined columns text) ∙ ap held (append_assoc js (c ∷ []) (joined columns text)) in
    subst (λ (cells : List Cell). Ends (p ++ Holds d (held (js ++ c ∷ joined columns text)) style ∷ half w) (cut room (text_cells columns style text)) post
    (after_text columns style text (cells, pen_of a e (Some k)))) (sym (join_behind p d js style w post c k last))
    (subst (λ (held_all : List ℕ). Ends (p ++ Holds d held_all style ∷ half w) (cut room (text_cells columns style text)) post
    (after_text columns style text ((p ++ Holds d more style ∷ half w) ++ post, pen_of a e (Some k)))) all
    (follows p d more w post room a e k (held_again (js ++ c ∷ [])) (omega arith) end last fits))
follow_with columns style (suc n) c text begins follows p d js w post room a e k few at end last fits =
    let same : js ≡ held (js ++ []) = sym few ∙ ap held (sym (append-nil js)) in
    subst (λ (held_all : List ℕ). Ends (p ++ Holds d held_all style ∷ half w) (cut room (cells_with style (suc n) c (joined columns text) (text_cells columns style text))) post
    (after_text columns style text (after_char style (suc n) c ((p ++ Holds d js style ∷ half w) ++ post, pen_of a e (Some k))))) same
    (write_some columns style n c text begins follows (p ++ Holds d js style ∷ half w) post room a e (Some k) at end fits)

pub nothing_cut : (room : ℕ) → cut room [] ≡ []
nothing_cut zero = refl
nothing_cut (suc room) = refl

-- what every text leaves
written_text : (columns : ℕ → ℕ) (style : Style) (text : List ℕ) → Begins columns style text × Follows columns style text
written_text columns style [] = (
  λ pre post room a e at end fits. subst (λ (new : List Cell). Ends pre new post (pre ++ post, pen_of a e None)) (sym (nothing_cut room)) (record { cells = refl; at = omega arith }),
  λ p d js w post room a e k few at end last fits.
      let same : js ≡ held (js ++ []) = sym few ∙ ap held (sym (append-nil js)) in
      subst (λ (new : List Cell). Ends (p ++ Holds d (held (js ++ [])) style ∷ half w) new post ((p ++ Holds d js style ∷ half w) ++ post, pen_of a e (Some k))) (sym (nothing_cut room))
      (subst (λ (held_all : List ℕ). Ends (p ++ Holds d held_all style ∷ half w) [] post ((p ++ Holds d js style ∷ half w) ++ post, pen_of a e (Some k))) same
      (record { cells = refl; at = omega arith })),
)
written_text columns style (c ∷ text) =
    let others = written_text columns style text in
    (begin_with columns style (columns c) c text others.0 others.1, follow_with columns style (columns c) c text others.0 others.1)

-- a text that is written into the columns from x up to `end` of a row
drawn_ends : (columns : ℕ → ℕ) (style : Style) (text : List ℕ) (x end : ℕ) (cells : List Cell) (s : List Cell × Pen) → x ≤ end → end ≤ length cells
    → s ≡ after_text columns style text (front x cells ++ drop x cells, pen_at x end)
    → Ends (front x cells) (cut (end - x) (text_cells columns style text)) (drop x cells) s
drawn_ends columns style text x end cells s order fits is =
    let size : length (front x cells) ≡ x = length-front x cells (omega arith) in
    let dropped : length (drop x cells) ≡ length cells - x = length-drop x cells in
    subst (λ (t : List Cell × Pen). Ends (front x cells) (cut (end - x) (text_cells columns style text)) (drop x cells) t) (sym is)
    ((written_text columns style text).0 (front x cells) (drop x cells) (end - x) x end (sym size) (omega arith) (omega arith))

-- where the pen is then
pub drawn_at : (columns : ℕ → ℕ) (style : Style) (text : List ℕ) (x end : ℕ) (cells : List Cell) (s : List Cell × Pen) → x ≤ end → end ≤ length cells
    → s ≡ after_text columns style text (front x cells ++ drop x cells, pen_at x end)
    → s.1.at ≡ x + length (cut (end - x) (text_cells columns style text))
drawn_at columns style text x end cells s order fits is =
    (drawn_ends columns style text x end cells s order fits is).at
    ∙ ap (λ (n : ℕ). n + length (cut (end - x) (text_cells columns style text))) (length-front x cells (omega arith))

-- the row, with what it tears blanked
pub drawn_row : (columns : ℕ → ℕ) (style : Style) (text : List ℕ) (x end : ℕ) (cells : List Cell) (s : List Cell × Pen) → x ≤ end → end ≤ length cells
    → s ≡ after_text columns style text (front x cells ++ drop x cells, pen_at x end)
    → take s.1.at s.0 ++ healed (drop s.1.at s.0) ≡ splice x (cut (end - x) (text_cells columns style text)) cells
drawn_row columns style text x end cells s order fits is =
    let new = cut (end - x) (text_cells columns style text) in
    let before = front x cells in
    let rest = drop (length new) (drop x cells) in
    let ends = drawn_ends columns style text x end cells s order fits is in
    let written : length (before ++ new) ≡ s.1.at = length-append before new ∙ sym ends.at in
    let whole : s.0 ≡ (before ++ new) ++ rest = ends.cells ∙ sym (append_assoc before new rest) in
    ap (λ (cs : List Cell). take s.1.at cs ++ healed (drop s.1.at cs)) whole
    ∙ ap (λ (cs : List Cell). cs ++ healed (drop s.1.at ((before ++ new) ++ rest))) (take_at (before ++ new) rest s.1.at written)
    ∙ ap (λ (cs : List Cell). (before ++ new) ++ healed cs) (drop_at (before ++ new) rest s.1.at written ∙ drop-drop (length new) x cells)
    ∙ append_assoc before new (healed (drop (x + length new) cells))

-- one more character
pub after_text-last : (columns : ℕ → ℕ) (style : Style) (text : List ℕ) (c : ℕ) (s : List Cell × Pen)
    → after_text columns style (text ++ c ∷ []) s ≡ after_char style (columns c) c (after_text columns style text s)
after_text-last columns style [] c s = refl
after_text-last columns style (d ∷ text) c s = after_text-last columns style text c (after_char style (columns d) d s)

cut_within : (b : Bool) (n : ℕ) (cells : List Cell) → length (cond b (take (n - 1) cells) (take n cells)) ≤ n
cut_within true n cells = omega (arith, length-take (n - 1) cells)
cut_within false n cells = omega (arith, length-take n cells)

pub length-cut : (n : ℕ) (cells : List Cell) → length (cut n cells) ≤ n
length-cut n cells = cut_within (is_half (cell_at cells n)) n cells

length-cells_with : (style : Style) (n c : ℕ) (js : List ℕ) (cells : List Cell) → length (cells_with style n c js cells) ≡ min n 2 + length cells
length-cells_with style zero c js cells = omega arith
length-cells_with style (suc zero) c js cells = omega arith
length-cells_with style (suc (suc n)) c js cells = omega arith

-- a text has as many cells as columns
pub length-text_cells : (columns : ℕ → ℕ) (style : Style) (text : List ℕ) → length (text_cells columns style text) ≡ text_columns columns text
length-text_cells columns style [] = refl
length-text_cells columns style (c ∷ text) =
    length-cells_with style (columns c) c (joined columns text) (text_cells columns style text) ∙ ap (λ (n : ℕ). min (columns c) 2 + n) (length-text_cells columns style text)

pub text_columns-last : (columns : ℕ → ℕ) (text : List ℕ) (c : ℕ) → text_columns columns (text ++ c ∷ []) ≡ text_columns columns text + min (columns c) 2
text_columns-last columns [] c = omega arith
text_columns-last columns (d ∷ text) c = omega (arith, text_columns-last columns text c)

-- ---- texts with an ellipsis

pub cut_all : (n : ℕ) (cells : List Cell) → length cells ≤ n → cut n cells ≡ cells
cut_all n cells fits = ap (λ (x : Cell). cond (is_half x) (take (n - 1) cells) (take n cells)) (get_or_past cells n blank_cell fits) ∙ take_all n cells fits

-- one that fits
pub shortened_whole : (style : Style) (n : ℕ) (cells : List Cell) → length cells ≤ n → cut n cells ≡ shortened style n cells
shortened_whole style n cells fits =
    cut_all n cells fits ∙ ap (λ (b : Bool). cond b cells (take n (cut (n - 1) cells ++ cell_of style 0x2026 ∷ []))) (sym (le_true (length cells) n fits))

-- one without room
pub shortened_none : (style : Style) (cells : List Cell) → is_half (cell_at cells 0) ≡ false → cut 0 cells ≡ shortened style 0 cells
shortened_none style [] whole = shortened_whole style 0 [] (omega arith)
shortened_none style (x ∷ cells) whole =
    cut_none (x ∷ cells) whole
    ∙ ap (λ (b : Bool). cond b (x ∷ cells) []) (sym (le_false (length (x ∷ cells)) 0 (omega arith)))

-- one that doesn't fit
pub shortened_long : (style : Style) (n : ℕ) (cells : List Cell) → n < length cells → 0 < n → cut (n - 1) cells ++ cell_of style 0x2026 ∷ [] ≡ shortened style n cells
shortened_long style n cells long some =
    let new = cut (n - 1) cells ++ cell_of style 0x2026 ∷ [] in
    sym (take_all n new (omega (arith, length_push (cut (n - 1) cells) (cell_of style 0x2026), length-cut (n - 1) cells)))
    ∙ ap (λ (b : Bool). cond b cells (take n new)) (sym (le_false (length cells) n long))

pub ellipsis_columns : char_columns 0x2026 ≡ 1
unfolding unicode_width
ellipsis_columns = refl

ellipsis_cells : (style : Style) → text_cells char_columns style (0x2026 ∷ []) ≡ cell_of style 0x2026 ∷ []
ellipsis_cells style = ap (λ (n : ℕ). cells_with style n 0x2026 [] []) ellipsis_columns

-- a column of ellipses
pub filled_ellipsis : (style : Style) → filling style 1 0x2026 ≡ cell_of style 0x2026 ∷ []
filled_ellipsis style = ap (cut 1) (ellipsis_cells style)

shortened_within : (b : Bool) (style : Style) (n : ℕ) (cells : List Cell) → nat_le (length cells) n ≡ b → length (cond b cells (take n (cut (n - 1) cells ++ cell_of style 0x2026 ∷ []))) ≤ n
shortened_within true style n cells fits = grind (arith, nat_tests)
shortened_within false style n cells long = omega (arith, length-take n (cut (n - 1) cells ++ cell_of style 0x2026 ∷ []))

pub length-shortened : (style : Style) (n : ℕ) (cells : List Cell) → length (shortened style n cells) ≤ n
length-shortened style n cells = shortened_within (nat_le (length cells) n) style n cells refl

take_first : (n : ℕ) (cells : List Cell) → is_half (cell_at cells 0) ≡ false → is_half (cell_at (take n cells) 0) ≡ false
take_first zero cells whole = refl
take_first (suc n) [] whole = refl
take_first (suc n) (x ∷ cells) whole = whole

cut_first : (b : Bool) (n : ℕ) (cells : List Cell) → is_half (cell_at cells 0) ≡ false → is_half (cell_at (cond b (take (n - 1) cells) (take n cells)) 0) ≡ false
cut_first true n cells whole = take_first (n - 1) cells whole
cut_first false n cells whole = take_first n cells whole

-- cells that are cut begin with no second half either
pub whole_cut : (n : ℕ) (cells : List Cell) → is_half (cell_at cells 0) ≡ false → is_half (cell_at (cut n cells) 0) ≡ false
whole_cut n cells whole = cut_first (is_half (cell_at cells n)) n cells whole

-- ---- more than two columns count as two

pub after_char-two : (style : Style) (n c : ℕ) (s : List Cell × Pen) → after_char style (min n 2) c s ≡ after_char style n c s
after_char-two style zero c s = refl
after_char-two style (suc zero) c s = refl
after_char-two style (suc (suc n)) c s = ap (λ (m : ℕ). after_char style m c s) (let e : min (suc (suc n)) 2 ≡ 2 = omega arith in e)
