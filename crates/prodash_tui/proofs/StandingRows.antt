-- A row of a display that stands for one of a grid still does after cells are written into it.
use Rattle.std.proofs.Common.{◌≡◌, ℕ, zero, suc, ◌+◌, ◌-◌, ◌<◌, ◌≤◌, Bool, true, false, cond, inl, inr, List, [], ◌∷◌, ◌++◌, length, set, take, drop, refl, sym, ap, subst, ◌∙◌, append_assoc, length-append, arith}
use Rattle.std.specs.Prelude.{replicate}
use Rattle.std.specs.List.{AllByRecursion}
use Rattle.std.proofs.lemmas.Bool.{cases_lt}
use Rattle.std.proofs.lemmas.List.{get_or-append-add, get_or_append_left, get_or-drop, get_or-set_other, get_or-set_same, get_or-take, length-take-le, length-replicate}
use Rattle.prodash_tui.specs.declared.cell.Cell.{Cell}
use Rattle.prodash_tui.specs.declared.cell.Cell.TheVariants.{Holds, Half}
use Rattle.prodash_tui.specs.declared.style.Style.{Style}
use Rattle.prodash_tui.specs.Cells.{blank_cell, cell_at, cell_of, is_half}
use Rattle.prodash_tui.specs.Rows.{front, healed, splice}
use Rattle.prodash_tui.specs.HeldCharacters.{CellHolds, RowHolds}
use Rattle.prodash_tui.specs.OtherWidths.{IsAtEdge, IsBlank, ShowsOwn, Stands}
use Rattle.prodash_tui.proofs.HeldCharacters.{at_held}
use Rattle.prodash_tui.proofs.PlayedChanges.{half}
use Rattle.prodash_tui.proofs.SplicedRows.{length-front, length-splice, splice_before, splice_behind}

-- ---- cells of a row into which others are written

far_either : (t : Bool) (x : ℕ) (cells : List Cell) (k : ℕ) → k + 1 < x → cell_at (cond t (set (take x cells) (x - 1) blank_cell) (take x cells)) k ≡ cell_at cells k
far_either true x cells k lt = get_or-set_other (take x cells) (x - 1) k blank_cell blank_cell (λ (e : k ≡ x - 1). omega arith) ∙ get_or-take x cells k blank_cell (omega arith)
far_either false x cells k lt = get_or-take x cells k blank_cell (omega arith)

-- those that don't end at the column stay
spliced_far : (x : ℕ) (new row : List Cell) (k : ℕ) → x ≤ length row → k + 1 < x → cell_at (splice x new row) k ≡ cell_at row k
spliced_far x new row k fits lt =
    get_or_append_left (front x row) (new ++ healed (drop (x + length new) row)) blank_cell k (omega (arith, length-front x row fits)) ∙ far_either (is_half (cell_at row x)) x row k lt

-- the first half of a character, whose second one is written over, is blank
spliced_torn : (x : ℕ) (new row : List Cell) → x < length row → (k : ℕ) → k + 1 ≡ x → is_half (cell_at row x) ≡ true → cell_at (splice x new row) k ≡ blank_cell
spliced_torn x new row inside k e torn =
    let at : k ≡ x - 1 = omega arith in
    get_or_append_left (front x row) (new ++ healed (drop (x + length new) row)) blank_cell k (omega (arith, length-front x row (omega arith)))
    ∙ ap (λ (t : Bool). cell_at (cond t (set (take x row) (x - 1) blank_cell) (take x row)) k) torn
    ∙ ap (λ (n : ℕ). cell_at (set (take x row) (x - 1) blank_cell) n) at
    ∙ get_or-set_same (take x row) (x - 1) blank_cell blank_cell (omega (arith, length-take-le x row (omega arith)))

healed_first : (cells : List Cell) → is_half (cell_at cells 0) ≡ true → cell_at (healed cells) 0 ≡ blank_cell
healed_first [] torn = refl
healed_first (Holds c joined style ∷ cells) torn = absurd (cc)
healed_first (Half ∷ cells) torn = refl

-- so is the second half, whose first one is
spliced_healed : (x : ℕ) (new row : List Cell) (k : ℕ) → x ≤ length row → k ≡ x + length new → is_half (cell_at row k) ≡ true → cell_at (splice x new row) k ≡ blank_cell
spliced_healed x new row k fits e torn =
    let n = x + length new in
    let before = front x row ++ new in
    let rest = drop n row in
    let size : length before ≡ n = length-append (front x row) new ∙ ap (λ (m : ℕ). m + length new) (length-front x row fits) in
    let first : cell_at rest 0 ≡ cell_at row k = get_or-drop n row 0 blank_cell ∙ ap (λ (m : ℕ). cell_at row m) (let f : n + 0 ≡ k = omega arith in f) in
    ap (λ (cs : List Cell). cell_at cs k) (sym (append_assoc (front x row) new (healed rest)))
    ∙ ap (λ (m : ℕ). cell_at (before ++ healed rest) m) (let f : k ≡ length before + 0 = omega arith in f)
    ∙ get_or-append-add before (healed rest) 0 blank_cell
    ∙ healed_first rest (ap is_half first ∙ torn)

-- the written ones
spliced_inside : (x : ℕ) (new row : List Cell) (k : ℕ) → x ≤ length row → k < length new → cell_at (splice x new row) (x + k) ≡ cell_at new k
spliced_inside x new row k fits lt =
    let rest = healed (drop (x + length new) row) in
    ap (λ (m : ℕ). cell_at (splice x new row) m) (let e : x + k ≡ length (front x row) + k = omega (arith, length-front x row fits) in e)
    ∙ get_or-append-add (front x row) (new ++ rest) k blank_cell
    ∙ get_or_append_left new rest blank_cell k lt

-- ---- a row that stands for another

blank_is : (a : Cell) → a ≡ blank_cell → IsBlank a
blank_is a e = subst IsBlank (sym e) (refl, refl)

-- the second of two rows is the first one but for this many cells from column x on
abbrev pub SameBut : ℕ → ℕ → List Cell → List Cell → Type 0
SameBut x n cells others = (k : ℕ) → (x ≤ k → k < x + n → ⊥) → cell_at others k ≡ cell_at cells k

-- a cell that has stayed shows its own, if the one behind it has stayed where it was a second half
own_stays : (row next cells others : List Cell) (k : ℕ) → length next ≡ length row → cell_at next k ≡ cell_at row k → cell_at others k ≡ cell_at cells k
    → (IsAtEdge row cells k → IsAtEdge next others k) → ShowsOwn row cells k → ShowsOwn next others k
own_stays row next cells others k size stays same edge (inl blank) = inl (subst IsBlank (sym stays) blank)
own_stays row next cells others k size stays same edge (inr (inl is)) = inr (inl (stays ∙ is ∙ sym same))
own_stays row next cells others k size stays same edge (inr (inr at)) = inr (inr (edge at))

not_half : (a : Cell) → is_half a ≡ false → a ≡ Half → ⊥
not_half (Holds c joined style) whole e = absurd (cc)
not_half Half whole e = absurd (cc)

before_splice : (x : ℕ) (new row cells others : List Cell) (k : ℕ) → x < length row → x + length new ≤ length row → SameBut x (length new) cells others → k < x
    → ShowsOwn row cells k → ShowsOwn (splice x new row) others k
before_splice x new row cells others k inside fits same lt own =
    let next = splice x new row in
    let kept : cell_at others k ≡ cell_at cells k = same k (λ (h : x ≤ k) (i : k < x + length new). omega arith) in
    let size : length next ≡ length row = length-splice x new row fits in
    elim (cases_lt (k + 1) x) [
      | inl far ↦ own_stays row next cells others k size (spliced_far x new row k (omega arith) far) kept (λ (at : IsAtEdge row cells k). absurd (omega (arith, at.last))) own
      | inr close ↦
          let e : k + 1 ≡ x = omega arith in
          let Shown : Bool → Type 0 = λ (t : Bool). is_half (cell_at row x) ≡ t → ShowsOwn next others k in
          let go : (t : Bool) → Shown t = λ t. elim t as Shown [
            | true ↦ λ torn. inl (blank_is (cell_at next k) (spliced_torn x new row inside k e torn))
            | false ↦ λ whole.
                own_stays row next cells others k size (splice_before x new row k (omega arith) whole lt) kept
                (λ (at : IsAtEdge row cells k). absurd (not_half (cell_at row x) whole (ap (λ (m : ℕ). cell_at row m) (sym e) ∙ at.wide))) own
          ] in
          go (is_half (cell_at row x)) refl
    ]

behind_splice : (x : ℕ) (new row cells others : List Cell) (k : ℕ) → x < length row → x + length new ≤ length row → SameBut x (length new) cells others → x + length new ≤ k
    → ShowsOwn row cells k → ShowsOwn (splice x new row) others k
behind_splice x new row cells others k inside fits same le own =
    let next = splice x new row in
    let kept : (m : ℕ) → k ≤ m → cell_at others m ≡ cell_at cells m = λ m h. same m (λ (i : x ≤ m) (j : m < x + length new). omega arith) in
    let size : length next ≡ length row = length-splice x new row fits in
    let edge : cell_at next k ≡ cell_at row k → IsAtEdge row cells k → IsAtEdge next others k = λ stays at. record {
      last = at.last ∙ sym size;
      wide = splice_behind x new row (k + 1) (omega arith) (omega arith) (λ (e : k + 1 ≡ x + length new). absurd (omega arith)) ∙ at.wide;
      same = stays ∙ at.same ∙ sym (kept (k + 1) (omega arith));
    } in
    let stay : (k ≡ x + length new → is_half (cell_at row k) ≡ false) → ShowsOwn next others k = λ whole.
    let stays : cell_at next k ≡ cell_at row k = splice_behind x new row k (omega arith) le whole in
    own_stays row next cells others k size stays (kept k (omega arith)) (edge stays) own in
    let Shown : Bool → Type 0 = λ (t : Bool). is_half (cell_at row k) ≡ t → ShowsOwn next others k in
    let go : (t : Bool) → Shown t = λ t. elim t as Shown [
      | true ↦ λ torn.
          elim (cases_lt (x + length new) k) [
            | inl past ↦ stay (λ (e : k ≡ x + length new). absurd (omega arith))
            | inr at ↦ inl (blank_is (cell_at next k) (spliced_healed x new row k (omega arith) (omega arith) torn))
          ]
      | false ↦ λ whole. stay (λ (e : k ≡ x + length new). whole)
    ] in
    go (is_half (cell_at row k)) refl

-- what stands for a row stands for another one after cells are written, if these show their own, and the others are the same
stands_spliced : (x : ℕ) (new row cells others : List Cell) → x < length row → x + length new ≤ length row → Stands row cells → length others ≡ length cells → SameBut x (length new) cells others
    → ((k : ℕ) → k < length new → ShowsOwn (splice x new row) others (x + k)) → Stands (splice x new row) others
stands_spliced x new row cells others inside fits stands size same own = record {
  size = length-splice x new row fits ∙ stands.size ∙ sym size;
  each = λ k. elim (cases_lt k x) [
    | inl lt ↦ before_splice x new row cells others k inside fits same lt (stands.each k)
    | inr from ↦
        elim (cases_lt k (x + length new)) [
          | inl to ↦ subst (λ (m : ℕ). ShowsOwn (splice x new row) others m) (let e : x + (k - x) ≡ k = omega arith in e) (own (k - x) (omega arith))
          | inr le ↦ behind_splice x new row cells others k inside fits same le (stands.each k)
        ]
  ];
}

-- no cells
pub stands_torn : (x : ℕ) (row cells : List Cell) → x < length row → Stands row cells → Stands (splice x [] row) cells
stands_torn x row cells inside stands = stands_spliced x [] row cells cells inside (omega arith) stands refl (λ k out. refl) (λ (k : ℕ) (lt : k < 0). absurd (omega arith))

blank_at : (style : Style) (n k : ℕ) → IsBlank (cell_at (replicate n (cell_of style 32)) k)
blank_at style zero k = (refl, refl)
blank_at style (suc n) zero = (refl, refl)
blank_at style (suc n) (suc k) = blank_at style n k

-- blanks
pub stands_blank : (x n : ℕ) (style : Style) (row cells others : List Cell) → x < length row → x + n ≤ length row → Stands row cells → length others ≡ length cells → SameBut x n cells others
    → Stands (splice x (replicate n (cell_of style 32)) row) others
stands_blank x n style row cells others inside fits stands size same =
    let new = replicate n (cell_of style 32) in
    let count : length new ≡ n = length-replicate n (cell_of style 32) in
    stands_spliced x new row cells others inside (omega arith) stands size (subst (λ (m : ℕ). SameBut x m cells others) (sym count) same)
    (λ k lt. inl (subst IsBlank (sym (spliced_inside x new row k (omega arith) lt)) (blank_at style n k)))

half_blank : (w : Bool) (k : ℕ) → k < length (half w) → IsBlank (cell_at (half w) k)
half_blank true zero lt = tt
half_blank true (suc k) lt = absurd (omega arith)
half_blank false k lt = absurd (omega arith)

-- the character of the grid's cell, narrow or wide
pub stands_written : (x : ℕ) (a : Cell) (w : Bool) (row cells others : List Cell) → x + suc (length (half w)) ≤ length row → Stands row cells → length others ≡ length cells
    → SameBut x (suc (length (half w))) cells others → cell_at others x ≡ a → Stands (splice x (a ∷ half w) row) others
stands_written x a w row cells others fits stands size same is =
    let new = a ∷ half w in
    let own : (k : ℕ) → k < length new → cell_at (splice x new row) (x + k) ≡ cell_at new k → ShowsOwn (splice x new row) others (x + k) =
    λ k. elim k as (λ k. k < length new → cell_at (splice x new row) (x + k) ≡ cell_at new k → ShowsOwn (splice x new row) others (x + k)) [
      | zero ↦ λ lt written. inr (inl (written ∙ sym is ∙ ap (λ (m : ℕ). cell_at others m) (let e : x ≡ x + 0 = omega arith in e)))
      | suc k ↦ λ lt written. inl (subst IsBlank (sym written) (half_blank w k (omega arith)))
    ] in
    stands_spliced x new row cells others (omega arith) fits stands size same (λ k lt. own k lt (spliced_inside x new row k (omega arith) lt))

-- the last one, in the last two cells
pub stands_at_edge : (x : ℕ) (a : Cell) (row cells : List Cell) → x + 2 ≡ length row → Stands row cells → cell_at cells (x + 1) ≡ a → Stands (splice x (a ∷ Half ∷ []) row) cells
stands_at_edge x a row cells last stands is =
    let new = a ∷ Half ∷ [] in
    let next = splice x new row in
    let size : length next ≡ length row = length-splice x new row (omega arith) in
    let other : cell_at next (x + 1) ≡ Half = spliced_inside x new row 1 (omega arith) (omega arith) in
    let own : (k : ℕ) → k < length new → cell_at next (x + k) ≡ cell_at new k → ShowsOwn next cells (x + k) =
    λ k. elim k as (λ k. k < length new → cell_at next (x + k) ≡ cell_at new k → ShowsOwn next cells (x + k)) [
      | zero ↦ λ lt written.
          let e : x ≡ x + 0 = omega arith in
          inr (inr (subst (λ (m : ℕ). IsAtEdge next cells m) e (record {
            last = omega arith;
            wide = other;
            same = ap (λ (m : ℕ). cell_at next m) e ∙ written ∙ sym is;
          })))
      | suc k ↦ λ lt written.
          let e : k ≡ 0 = omega arith in
          inl (subst IsBlank (sym (written ∙ ap (λ (m : ℕ). cell_at new (suc m)) e)) tt)
    ] in
    stands_spliced x new row cells cells (omega arith) (omega arith) stands refl (λ k out. refl) (λ k lt. own k lt (spliced_inside x new row k (omega arith) lt))

-- ---- what such a row holds

row_of_cells : (P : ℕ → Type 0) (row : List Cell) → ((k : ℕ) → CellHolds P (cell_at row k)) → RowHolds P row
row_of_cells P [] each = tt
row_of_cells P (a ∷ row) each = (each 0, row_of_cells P row (λ k. each (suc k)))

blank_holds : (P : ℕ → Type 0) → P 32 → (a : Cell) → IsBlank a → CellHolds P a
blank_holds P space (Holds c joined style) blank = (subst P (sym blank.0) space, subst (AllByRecursion P) (sym blank.1) tt)
blank_holds P space Half blank = tt

own_holds : (P : ℕ → Type 0) → P 32 → (row cells : List Cell) (k : ℕ) → RowHolds P cells → ShowsOwn row cells k → CellHolds P (cell_at row k)
own_holds P space row cells k holds (inl blank) = blank_holds P space (cell_at row k) blank
own_holds P space row cells k holds (inr (inl is)) = subst (CellHolds P) (sym is) (at_held P space cells k holds)
own_holds P space row cells k holds (inr (inr at)) = subst (CellHolds P) (sym at.same) (at_held P space cells (k + 1) holds)

pub stands_hold : (P : ℕ → Type 0) → P 32 → (row cells : List Cell) → Stands row cells → RowHolds P cells → RowHolds P row
stands_hold P space row cells stands holds = row_of_cells P row (λ k. own_holds P space row cells k holds (stands.each k))
