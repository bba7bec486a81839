-- Drawing inside parts of a rectangle changes no cell outside it.
use Rattle.std.proofs.Common.{◌≡◌, ◌≢◌, ℕ, ◌+◌, ◌-◌, ◌<◌, ◌≤◌, ◌^◌, Bool, true, false, cond, ◌⊎◌, List, [], ◌∷◌, ◌++◌, length, set, get_or, take, drop, replicate, inl, inr, refl, sym, ap, ◌∙◌, arith}
use Rattle.std.proofs.lemmas.Bool.{cases_lt}
use Rattle.std.proofs.lemmas.List.{get_or_append_left, get_or-append-add, get_or-take, get_or-set_other, get_or-set_same, get_or_past, length-take-le}
use Rattle.std.proofs.lemmas.List.Elements.{All-get_or}
use Rattle.prodash_core.specs.declared.render.tui.event.Rect.{Rect}
use Rattle.prodash_line.specs.CellRows.{char_columns}
use Rattle.prodash_line.specs.DrawnLines.{safe_char}
use Rattle.prodash_tui.specs.declared.cell.Cell.{Cell}
use Rattle.prodash_tui.specs.declared.style.Style.{Style}
use Rattle.prodash_tui.specs.Cells.{blank_cell, cell_at, is_half}
use Rattle.prodash_tui.specs.Rows.{front, healed, splice}
use Rattle.prodash_tui.specs.Rects.{border}
use Rattle.prodash_tui.specs.Texts.{filling, text_cells}
use Rattle.prodash_tui.specs.Grids.{IsSheet, Sheet, in_rows, left_of, room_of, with_cells, with_filling, with_fillings}
use Rattle.prodash_tui.specs.Outside.{CutsNone, IsRowOf, SameOutside, row_at}
use Rattle.prodash_tui.proofs.GridRows.{All-in_rows, in_inside, in_outside, length-in_rows_any}
use Rattle.prodash_tui.proofs.SplicedRows.{length-front, length-splice, splice_behind, whole_healed}
use Rattle.prodash_tui.proofs.WrittenTexts.{length-cut, whole_text, whole_cut}

-- ---- rows

front_cell : (x : ℕ) (cells : List Cell) (k : ℕ) (b : Bool) → is_half (cell_at cells x) ≡ b → x ≤ length cells → k < x → (k + 1 ≡ x → is_half (cell_at cells x) ≡ false)
    → cell_at (cond b (set (take x cells) (x - 1) blank_cell) (take x cells)) k ≡ cell_at cells k
front_cell x cells k true half fits lt whole =
    let other : k ≢ x - 1 = λ (e : k ≡ x - 1). let f : true ≡ false = sym half ∙ whole (omega arith) in absurd (cc) in
    get_or-set_other (take x cells) (x - 1) k blank_cell blank_cell other ∙ get_or-take x cells k blank_cell lt
front_cell x cells k false half fits lt whole = get_or-take x cells k blank_cell lt

-- a cell before the column stays, unless it is the first half of a character whose second half is in it
splice_near : (x : ℕ) (new cells : List Cell) (k : ℕ) → x ≤ length cells → k < x → (k + 1 ≡ x → is_half (cell_at cells x) ≡ false) → cell_at (splice x new cells) k ≡ cell_at cells k
splice_near x new cells k fits lt whole =
    get_or_append_left (front x cells) (new ++ healed (drop (x + length new) cells)) blank_cell k (omega (arith, length-front x cells fits))
    ∙ front_cell x cells k (is_half (cell_at cells x)) refl fits lt whole

front_half : (x : ℕ) (cells : List Cell) (k : ℕ) (b : Bool) → x ≤ length cells → k + 1 ≡ x → is_half (cell_at cells k) ≡ false
    → is_half (cell_at (cond b (set (take x cells) (x - 1) blank_cell) (take x cells)) k) ≡ false
front_half x cells k true fits last whole =
    ap (λ (n : ℕ). is_half (cell_at (set (take x cells) (x - 1) blank_cell) n)) (let e : k ≡ x - 1 = omega arith in e)
    ∙ ap is_half (get_or-set_same (take x cells) (x - 1) blank_cell blank_cell (omega (arith, length-take-le x cells fits)))
front_half x cells k false fits last whole = ap is_half (get_or-take x cells k blank_cell (omega arith)) ∙ whole

-- what is no second half becomes none
half_before : (x : ℕ) (new cells : List Cell) (k : ℕ) → x ≤ length cells → k < x → is_half (cell_at cells k) ≡ false → is_half (cell_at (splice x new cells) k) ≡ false
half_before x new cells k fits lt whole = elim (cases_lt (k + 1) x) [
  | inl more ↦ ap is_half (splice_near x new cells k fits lt (λ (e : k + 1 ≡ x). absurd (omega arith))) ∙ whole
  | inr last ↦
      ap is_half (get_or_append_left (front x cells) (new ++ healed (drop (x + length new) cells)) blank_cell k (omega (arith, length-front x cells fits)))
      ∙ front_half x cells k (is_half (cell_at cells x)) fits (omega arith) whole
]

first_whole : (new rest : List Cell) → is_half (cell_at new 0) ≡ false → is_half (cell_at (new ++ healed rest) 0) ≡ false
first_whole [] rest whole = whole_healed rest
first_whole (n ∷ new) rest whole = whole

half_at : (x : ℕ) (new cells : List Cell) → x ≤ length cells → is_half (cell_at new 0) ≡ false → is_half (cell_at (splice x new cells) x) ≡ false
half_at x new cells fits whole =
    let rest = new ++ healed (drop (x + length new) cells) in
    ap (λ (n : ℕ). is_half (cell_at (front x cells ++ rest) n)) (let e : x ≡ length (front x cells) + 0 = omega (arith, length-front x cells fits) in e)
    ∙ ap is_half (get_or-append-add (front x cells) rest 0 blank_cell)
    ∙ first_whole new (drop (x + length new) cells) whole

half_behind : (x : ℕ) (new cells : List Cell) (k : ℕ) → x ≤ length cells → x + length new ≤ k → is_half (cell_at cells k) ≡ false → is_half (cell_at (splice x new cells) k) ≡ false
half_behind x new cells k fits le whole = ap is_half (splice_behind x new cells k fits le (λ (e : k ≡ x + length new). whole)) ∙ whole

-- ---- parts of rectangles

-- a part of a rectangle
record IsPart (area part : Rect) : Type 0 where
  pub left : area.x ≤ part.x
  pub right : part.x + part.width ≤ area.x + area.width
  pub top : area.y ≤ part.y
  pub bottom : part.y + part.height ≤ area.y + area.height

row_width : (g : Sheet) (y : ℕ) → IsSheet g → y < length g.rows → length (row_at g y) ≡ g.width
row_width g y whole inside = All-get_or (λ (row : List Cell). length row ≡ g.width) g.rows y [] inside whole.each

-- a row that is drawn on in a part, outside the rectangle
row_outside : (area part : Rect) (new : List Cell) (g : Sheet) (y x : ℕ) → IsSheet g → CutsNone area g → IsPart area part → IsRowOf area y → y < length g.rows → length new ≤ room_of part g
    → (area.x ≤ x → x < area.x + area.width → ⊥) → cell_at (splice (left_of part g) new (row_at g y)) x ≡ cell_at (row_at g y) x
row_outside area part new g y x whole cuts is_part in_row inside fits out =
    let row = row_at g y in
    let left = left_of part g in
    let width : length row ≡ g.width = row_width g y whole inside in
    let from : area.x ≤ part.x = is_part.left in
    let to : part.x + part.width ≤ area.x + area.width = is_part.right in
    elim (cases_lt x left) [
      | inl before ↦
          splice_near left new row x (omega arith) before
          (λ (e : x + 1 ≡ left).
          elim (cases_lt part.x g.width) [
            | inr off ↦ ap is_half (get_or_past row left blank_cell (omega arith))
            | inl on ↦
                elim (cases_lt x area.x) [
                  | inl h ↦ ap (λ (n : ℕ). is_half (cell_at row n)) (let f : left ≡ area.x = omega arith in f) ∙ cuts.left y in_row
                  | inr h ↦ absurd (out h (omega arith))
                ]
          ])
      | inr behind ↦
          elim (cases_lt x area.x) [
            | inl h ↦ splice_behind left new row x (omega arith) (omega arith) (λ (e : x ≡ left + length new). ap is_half (get_or_past row x blank_cell (omega arith)))
            | inr h ↦
                elim (cases_lt x (area.x + area.width)) [
                  | inl within ↦ absurd (out h within)
                  | inr past ↦
                      splice_behind left new row x (omega arith) (omega arith)
                      (λ (e : x ≡ left + length new).
                      elim (cases_lt x (length row)) [
                        | inl on ↦ ap (λ (n : ℕ). is_half (cell_at row n)) (let f : x ≡ area.x + area.width = omega arith in f) ∙ cuts.right y in_row
                        | inr off ↦ ap is_half (get_or_past row x blank_cell off)
                      ])
                ]
          ]
    ]

-- its edges still go through no character
row_left : (area part : Rect) (new : List Cell) (g : Sheet) (y : ℕ) → IsSheet g → CutsNone area g → IsPart area part → IsRowOf area y → y < length g.rows → length new ≤ room_of part g
    → is_half (cell_at new 0) ≡ false → is_half (cell_at (splice (left_of part g) new (row_at g y)) area.x) ≡ false
row_left area part new g y whole cuts is_part in_row inside fits first =
    let row = row_at g y in
    let left = left_of part g in
    let width : length row ≡ g.width = row_width g y whole inside in
    let from : area.x ≤ part.x = is_part.left in
    elim (cases_lt area.x left) [
      | inl before ↦ half_before left new row area.x (omega arith) before (cuts.left y in_row)
      | inr behind ↦
          elim (cases_lt area.x g.width) [
            | inl on ↦ ap (λ (n : ℕ). is_half (cell_at (splice left new row) n)) (let e : area.x ≡ left = omega arith in e) ∙ half_at left new row (omega arith) first
            | inr off ↦ ap is_half (get_or_past (splice left new row) area.x blank_cell (omega (arith, length-splice left new row (omega arith))))
          ]
    ]

row_right : (area part : Rect) (new : List Cell) (g : Sheet) (y : ℕ) → IsSheet g → CutsNone area g → IsPart area part → IsRowOf area y → y < length g.rows → length new ≤ room_of part g
    → is_half (cell_at (splice (left_of part g) new (row_at g y)) (area.x + area.width)) ≡ false
row_right area part new g y whole cuts is_part in_row inside fits =
    let width : length (row_at g y) ≡ g.width = row_width g y whole inside in
    let to : part.x + part.width ≤ area.x + area.width = is_part.right in
    half_behind (left_of part g) new (row_at g y) (area.x + area.width) (omega arith) (omega arith) (cuts.right y in_row)

-- ---- grids

-- a row that is drawn on
record IsDrawn (g : Sheet) (first count : ℕ) (f : List Cell → List Cell) (y : ℕ) : Type 0 where
  pub from : first ≤ y
  pub to : y < first + count
  pub inside : y < length g.rows
  pub row : get_or (in_rows first count f g.rows) y [] ≡ f (row_at g y)

-- each row is drawn on, or as it was
either_row : (g : Sheet) (first count : ℕ) (f : List Cell → List Cell) (y : ℕ) → IsDrawn g first count f y ⊎ (get_or (in_rows first count f g.rows) y [] ≡ row_at g y)
either_row g first count f y = elim (cases_lt y first) [
  | inl above ↦ inr (in_outside first count f g.rows y [] (λ (h : first ≤ y) (i : y < first + count). omega arith))
  | inr from ↦
      elim (cases_lt y (first + count)) [
        | inr below ↦ inr (in_outside first count f g.rows y [] (λ (h : first ≤ y) (i : y < first + count). omega arith))
        | inl to ↦
            elim (cases_lt y (length g.rows)) [
              | inl inside ↦ inl (record { from = from; to = to; inside = inside; row = in_inside first count f g.rows y [] from to inside })
              | inr past ↦ inr (get_or_past (in_rows first count f g.rows) y [] (omega (arith, length-in_rows_any first count f g.rows)) ∙ sym (get_or_past g.rows y [] past))
            ]
      ]
]

-- a row of a part is one of the rectangle
part_row : (area part : Rect) (count y : ℕ) → IsPart area part → count ≤ part.height → part.y ≤ y → y < part.y + count → IsRowOf area y
part_row area part count y is_part few from to =
    let top : area.y ≤ part.y = is_part.top in
    let bottom : part.y + part.height ≤ area.y + area.height = is_part.bottom in
    (omega arith, omega arith)

part_outside : (area part : Rect) (count : ℕ) (new : List Cell) (g : Sheet) → IsSheet g → CutsNone area g → IsPart area part → count ≤ part.height → length new ≤ room_of part g
    → SameOutside area g (with_cells part count new g)
part_outside area part count new g whole cuts is_part few fits y x out = elim (either_row g part.y count (splice (left_of part g) new) y) [
  | inr same ↦ ap (λ (row : List Cell). cell_at row x) same
  | inl drawn ↦
      let in_row : IsRowOf area y = part_row area part count y is_part few drawn.from drawn.to in
      ap (λ (row : List Cell). cell_at row x) drawn.row
      ∙ row_outside area part new g y x whole cuts is_part in_row drawn.inside fits (λ (h : area.x ≤ x) (i : x < area.x + area.width). out (in_row, h, i))
]

part_cuts : (area part : Rect) (count : ℕ) (new : List Cell) (g : Sheet) → IsSheet g → CutsNone area g → IsPart area part → count ≤ part.height → length new ≤ room_of part g
    → is_half (cell_at new 0) ≡ false → CutsNone area (with_cells part count new g)
part_cuts area part count new g whole cuts is_part few fits first = record {
  left = λ y in_row. elim (either_row g part.y count (splice (left_of part g) new) y) [
    | inr same ↦ ap (λ (row : List Cell). is_half (cell_at row area.x)) same ∙ cuts.left y in_row
    | inl drawn ↦ ap (λ (row : List Cell). is_half (cell_at row area.x)) drawn.row ∙ row_left area part new g y whole cuts is_part in_row drawn.inside fits first
  ];
  right = λ y in_row. elim (either_row g part.y count (splice (left_of part g) new) y) [
    | inr same ↦ ap (λ (row : List Cell). is_half (cell_at row (area.x + area.width))) same ∙ cuts.right y in_row
    | inl drawn ↦ ap (λ (row : List Cell). is_half (cell_at row (area.x + area.width))) drawn.row ∙ row_right area part new g y whole cuts is_part in_row drawn.inside fits
  ];
}

sheet_cells : (area : Rect) (count : ℕ) (new : List Cell) (g : Sheet) → length new ≤ room_of area g → IsSheet g → IsSheet (with_cells area count new g)
sheet_cells area count new g fits h = record {
  high = length-in_rows_any area.y count (splice (left_of area g) new) g.rows ∙ h.high;
  each = All-in_rows (λ (row : List Cell). length row ≡ g.width) area.y count (splice (left_of area g) new) g.rows
      (λ (row : List Cell) (e : length row ≡ g.width). length-splice (left_of area g) new row (omega arith) ∙ e) h.each;
}

-- ---- fillings of parts

abbrev ArePartsOf : Rect → List (Rect × ℕ) → Type 0
ArePartsOf area [] = Unit {0}
ArePartsOf area (f ∷ fs) = IsPart area f.0 × ArePartsOf area fs

fillings_outside : (area : Rect) (style : Style) (fs : List (Rect × ℕ)) (g : Sheet) → IsSheet g → CutsNone area g → ArePartsOf area fs → SameOutside area g (with_fillings style fs g)
fillings_outside area style [] g whole cuts parts y x out = refl
fillings_outside area style (f ∷ fs) g whole cuts parts y x out =
    let room = room_of f.0 g in
    let text = replicate room (safe_char f.1) in
    let new = filling style room f.1 in
    let fits : length new ≤ room = length-cut room (text_cells char_columns style text) in
    let first : is_half (cell_at new 0) ≡ false = whole_cut room (text_cells char_columns style text) (whole_text char_columns style text) in
    fillings_outside area style fs (with_filling f.0 style f.1 g) (sheet_cells f.0 f.0.height new g fits whole)
    (part_cuts area f.0 f.0.height new g whole cuts parts.0 (omega arith) fits first) parts.1 y x out
    ∙ part_outside area f.0 f.0.height new g whole cuts parts.0 (omega arith) fits y x out

border_parts : (area : Rect) → area.x < 2 ^ 16 → area.y < 2 ^ 16 → ArePartsOf area (border area)
border_parts area small low = (
  record { left = omega arith; right = omega arith; top = omega arith; bottom = omega arith },
  (
    record { left = omega arith; right = omega arith; top = omega arith; bottom = omega arith },
    (
      record { left = omega arith; right = omega arith; top = omega arith; bottom = omega arith },
      (
        record { left = omega arith; right = omega arith; top = omega arith; bottom = omega arith },
        (
          record { left = omega arith; right = omega arith; top = omega arith; bottom = omega arith },
          (
            record { left = omega arith; right = omega arith; top = omega arith; bottom = omega arith },
            (
              record { left = omega arith; right = omega arith; top = omega arith; bottom = omega arith },
              (
                record { left = omega arith; right = omega arith; top = omega arith; bottom = omega arith },
                tt,
              ),
            ),
          ),
        ),
      ),
    ),
  ),
)

-- a border stays inside its rectangle
pub border_outside : (area : Rect) (style : Style) (g : Sheet) → area.x < 2 ^ 16 → area.y < 2 ^ 16 → IsSheet g → CutsNone area g → SameOutside area g (with_fillings style (border area) g)
border_outside area style g small low whole cuts = fillings_outside area style (border area) g whole cuts (border_parts area small low)
