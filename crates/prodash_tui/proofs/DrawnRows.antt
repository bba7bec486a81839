-- Rows that calls draw.
use Rattle.std.proofs.Common.{◌≡◌, ℕ, zero, suc, ◌+◌, ◌-◌, ◌<◌, ◌≤◌, Bool, true, false, cond, List, [], ◌∷◌, ◌++◌, length, take, replicate, refl, sym, ap, subst, ◌∙◌, arith}
use Rattle.std.specs.Prelude.{slice_get}
use Rattle.std.proofs.lemmas.List.{length-replicate, length-take-le, take_all}
use Rattle.std.proofs.lemmas.List.Elements.{All-head, All-push, All-same, All-tail, All-take}
use Rattle.prodash_line.specs.CellRows.{char_columns}
use Rattle.prodash_line.specs.DrawnLines.{safe_char}
use Rattle.prodash_tui.specs.declared.cell.Cell.{Cell}
use Rattle.prodash_tui.specs.declared.drawn_row.DrawnRow.TheInside.{Inside}
use Rattle.prodash_tui.specs.declared.grid_row.Span.{Span}
use Rattle.prodash_tui.specs.declared.word.Word.{Word}
use Rattle.prodash_tui.specs.declared.word.Word.TheVariants.{Text, Shortened, Filling, Background}
use Rattle.prodash_tui.specs.Cells.{blank_cell, blank_cells, on_background}
use Rattle.prodash_tui.specs.Texts.{drawn_text, filling, text_cells, text_cut, text_shortened}
use Rattle.prodash_tui.specs.plumbing.Calls.{AreWithin, Drawing, IsCallOf, IsWithin, played, with_call, with_word}
use Rattle.prodash_tui.specs.plumbing.DrawnRows.{IsDrawn, drawn_cells, shown}
use Rattle.prodash_tui.proofs.GridRows.{length-in_rows_any}
use Rattle.prodash_tui.proofs.SplicedRows.{length-splice}
use Rattle.prodash_tui.proofs.WrittenTexts.{length-cut, length-shortened}

-- ---- how many cells there are

pub length-with_word : (word : Word) (columns : Span) (text : List ℕ) (cells : List Cell) → IsWithin (length cells) columns → length (with_word word columns text cells) ≡ length cells
length-with_word (Text style) columns text cells within =
    let room = columns.last - columns.first in
    let fits : length (text_cut style room text) ≤ room = length-cut room (text_cells char_columns style (drawn_text text)) in
    length-splice columns.first (text_cut style room text) cells (omega (arith, within.order, within.end))
length-with_word (Shortened style) columns text cells within =
    let room = columns.last - columns.first in
    let fits : length (text_shortened style room text) ≤ room = length-shortened style room (text_cells char_columns style (drawn_text text)) in
    length-splice columns.first (text_shortened style room text) cells (omega (arith, within.order, within.end))
length-with_word (Filling c style) columns text cells within =
    let room = columns.last - columns.first in
    let fits : length (filling style room c) ≤ room = length-cut room (text_cells char_columns style (replicate room (safe_char c))) in
    length-splice columns.first (filling style room c) cells (omega (arith, within.order, within.end))
length-with_word (Background color) columns text cells within =
    length-in_rows_any columns.first (columns.last - columns.first) (on_background color) cells

-- the calls draw in columns of as many
within_also : (calls : List Drawing) (n m : ℕ) → n ≡ m → AreWithin n calls → AreWithin m calls
within_also calls n m same within = subst (λ (k : ℕ). AreWithin k calls) same within

pub length-played : (calls : List Drawing) (cells : List Cell) → AreWithin (length cells) calls → length (played calls cells) ≡ length cells
length-played [] cells within = refl
length-played (call ∷ calls) cells within =
    let same : length (with_call call cells) ≡ length cells =
    length-with_word call.word call.columns call.text cells (All-head (λ (d : Drawing). IsWithin (length cells) d.columns) call calls within) in
    length-played calls (with_call call cells)
    (within_also calls (length cells) (length (with_call call cells)) (sym same) (All-tail (λ (d : Drawing). IsWithin (length cells) d.columns) call calls within))
    ∙ same

pub length-drawn_cells : (width : ℕ) (calls : List Drawing) → AreWithin width calls → length (drawn_cells width calls) ≡ width
length-drawn_cells width calls within =
    let size : length (blank_cells width) ≡ width = length-replicate width blank_cell in
    length-played calls (blank_cells width) (within_also calls width (length (blank_cells width)) (sym size) within) ∙ size

-- ---- one more call

-- the call that is the next one is there
pub next_inside : (calls : List Drawing) (k : ℕ) (word : Word) (columns : Span) (text : List ℕ) → IsCallOf word columns text (slice_get calls k) → k < length calls
next_inside [] k word columns text next = absurd next
next_inside (call ∷ calls) zero word columns text next = omega arith
next_inside (call ∷ calls) (suc k) word columns text next =
    let inside : k < length calls = next_inside calls k word columns text next in
    omega arith

next_played : (calls : List Drawing) (k : ℕ) (word : Word) (columns : Span) (text : List ℕ) (cells : List Cell) → IsCallOf word columns text (slice_get calls k)
    → played (take (suc k) calls) cells ≡ with_word word columns text (played (take k calls) cells)
next_played [] k word columns text cells next = absurd next
next_played (call ∷ calls) zero word columns text cells next = ap (λ (d : Drawing). with_call d cells) next
next_played (call ∷ calls) (suc k) word columns text cells next = next_played calls k word columns text (with_call call cells) next

-- the cells with the call that is the next one
pub drawn_next : (calls : List Drawing) (k : ℕ) (word : Word) (columns : Span) (text : List ℕ) (width : ℕ) → IsCallOf word columns text (slice_get calls k)
    → drawn_cells width (take (k + 1) calls) ≡ with_word word columns text (drawn_cells width (take k calls))
drawn_next calls k word columns text width next =
    ap (λ (n : ℕ). drawn_cells width (take n calls)) (let e : k + 1 ≡ suc k = omega arith in e) ∙ next_played calls k word columns text (blank_cells width) next

pub played-last : (calls : List Drawing) (call : Drawing) (cells : List Cell) → played (calls ++ call ∷ []) cells ≡ with_call call (played calls cells)
played-last [] call cells = refl
played-last (first ∷ calls) call cells = played-last calls call (with_call first cells)

-- ---- the fields of a row

length-either : (b : Bool) (n : ℕ) (drawn cells : List Cell) → length drawn ≡ n → length cells ≡ n → length (cond b drawn cells) ≡ n
length-either true n drawn cells h also = h
length-either false n drawn cells h also = also

pub length-shown : (r : Inside) → IsDrawn r → length (shown r) ≡ length r.cells
length-shown r is =
    let width = length r.cells in
    length-either r.is_remembered width (drawn_cells width (take r.same r.calls)) r.cells
    (length-drawn_cells width (take r.same r.calls) (All-take (λ (d : Drawing). IsWithin width d.columns) r.same r.calls is.within)) refl

-- what is shown if the calls are remembered, and if they aren't
pub shown_calls : (r : Inside) → r.is_remembered ≡ true → shown r ≡ drawn_cells (length r.cells) (take r.same r.calls)
shown_calls r on = ap (λ (b : Bool). cond b (drawn_cells (length r.cells) (take r.same r.calls)) r.cells) on

pub shown_itself : (r : Inside) → r.is_remembered ≡ false → shown r ≡ r.cells
shown_itself r off = ap (λ (b : Bool). cond b (drawn_cells (length r.cells) (take r.same r.calls)) r.cells) off

-- no call draws a blank row
pub drawn_none : (width : ℕ) (calls : List Drawing) → drawn_cells width (take 0 calls) ≡ blank_cells width
drawn_none width [] = refl
drawn_none width (call ∷ calls) = refl

-- the first calls draw as many columns
within_first : (r : Inside) → IsDrawn r → AreWithin (length r.cells) (take r.same r.calls)
within_first r is = All-take (λ (d : Drawing). IsWithin (length r.cells) d.columns) r.same r.calls is.within

-- the cells that the first calls draw are as many as before
pub length-settled : (r : Inside) (cells : List Cell) → IsDrawn r → cells ≡ drawn_cells (length r.cells) (take r.same r.calls) → length cells ≡ length r.cells
length-settled r cells is drawn = ap length drawn ∙ length-drawn_cells (length r.cells) (take r.same r.calls) (within_first r is)

-- all calls are kept of the first ones
pub all_first : (r : Inside) (calls : List Drawing) → IsDrawn r → calls ≡ take r.same r.calls → take r.same calls ≡ calls
all_first r calls is first = take_all r.same calls (let e : length calls ≡ r.same = ap length first ∙ length-take-le r.same r.calls is.same in omega arith)

-- a row that is settled
pub settled : (r : Inside) (cells : List Cell) (calls : List Drawing) → IsDrawn r
    → cells ≡ drawn_cells (length r.cells) (take r.same r.calls) → calls ≡ take r.same r.calls
    → IsDrawn (record r { cells = cells; calls = calls })
settled r cells calls is drawn first =
    let size : length cells ≡ length r.cells = length-settled r cells is drawn in
    record {
      narrow = omega (arith, is.narrow);
      within = All-same (λ (d : Drawing). IsWithin (length cells) d.columns) calls (take r.same r.calls) first
          (within_also (take r.same r.calls) (length r.cells) (length cells) (sym size) (within_first r is));
      same = (let e : length calls ≡ r.same = ap length first ∙ length-take-le r.same r.calls is.same in omega arith);
      drawn = λ on. drawn ∙ (λ i. drawn_cells (sym size i) (sym first i));
    }

-- it shows the same
pub settled_shown : (r : Inside) (cells : List Cell) (calls : List Drawing) → IsDrawn r → r.is_remembered ≡ true
    → cells ≡ drawn_cells (length r.cells) (take r.same r.calls) → calls ≡ take r.same r.calls
    → shown (record r { cells = cells; calls = calls }) ≡ shown r
settled_shown r cells calls is on drawn first =
    let size : length cells ≡ length r.cells = length-settled r cells is drawn in
    shown_calls (record r { cells = cells; calls = calls }) on
    ∙ (λ i. drawn_cells (size i) ((all_first r calls is first ∙ first) i))
    ∙ sym (shown_calls r on)

-- a row with one more call, which is remembered or not
drawn_more : (b : Bool) (width : ℕ) (before calls : List Drawing) (call : Drawing) (cells : List Cell)
    → (b ≡ true → calls ≡ before ++ call ∷ []) → cells ≡ with_call call (drawn_cells width before) → b ≡ true
    → cells ≡ drawn_cells width calls
drawn_more b width before calls call cells more is on =
    is ∙ sym (played-last before call (blank_cells width)) ∙ ap (drawn_cells width) (sym (more on))

within_more : (b : Bool) (width : ℕ) (before calls : List Drawing) (call : Drawing) → IsWithin width call.columns → AreWithin width before
    → (b ≡ false → calls ≡ before) → (b ≡ true → calls ≡ before ++ call ∷ []) → AreWithin width calls
within_more true width before calls call within also kept more =
    let P : Drawing → Type 0 = λ d. IsWithin width d.columns in
    All-same P calls (before ++ call ∷ []) (more refl) (All-push P before call also within)
within_more false width before calls call within also kept more = All-same (λ (d : Drawing). IsWithin width d.columns) calls before (kept refl) also

module _ (r : Inside) (is : IsDrawn r) (on : r.is_remembered ≡ true) (call : Drawing) (within : IsWithin (length r.cells) call.columns)
    (cells : List Cell) (calls : List Drawing) (b : Bool) (same changes : ℕ)
    (drawn : cells ≡ with_call call (drawn_cells (length r.cells) (take r.same r.calls)))
    (kept : b ≡ false → calls ≡ take r.same r.calls) (more : b ≡ true → calls ≡ take r.same r.calls ++ call ∷ []) (all : same ≡ length calls) where
  length-more : length cells ≡ length r.cells
  length-more =
      let size : length (drawn_cells (length r.cells) (take r.same r.calls)) ≡ length r.cells = length-drawn_cells (length r.cells) (take r.same r.calls) (within_first r is) in
      ap length drawn
      ∙ length-with_word call.word call.columns call.text (drawn_cells (length r.cells) (take r.same r.calls))
      (subst (λ (n : ℕ). IsWithin n call.columns) (sym size) within)
      ∙ size

  same_more : b ≡ true → cells ≡ drawn_cells (length cells) calls
  same_more held =
      drawn_more b (length r.cells) (take r.same r.calls) calls call cells more drawn held ∙ ap (λ (n : ℕ). drawn_cells n calls) (sym length-more)

  pub drawn_anew : IsDrawn (record { cells = cells; calls = calls; same = same; is_remembered = b; changes = changes })
  drawn_anew = record {
    narrow = (let size : length cells ≡ length r.cells = length-more in omega (arith, is.narrow));
    within = within_also calls (length r.cells) (length cells) (sym length-more)
        (within_more b (length r.cells) (take r.same r.calls) calls call within (within_first r is) kept more);
    same = omega arith;
    drawn = same_more;
  }

  shown_either : (v : Bool) → (v ≡ true → cells ≡ drawn_cells (length cells) calls) → cond v (drawn_cells (length cells) (take same calls)) cells ≡ cells
  shown_either true h = ap (drawn_cells (length cells)) (take_all same calls (omega arith)) ∙ sym (h refl)
  shown_either false h = refl

  pub shown_anew : shown (record { cells = cells; calls = calls; same = same; is_remembered = b; changes = changes }) ≡ with_call call (shown r)
  shown_anew = shown_either b same_more ∙ drawn ∙ ap (with_call call) (sym (shown_calls r on))
