-- A row of a display with other widths stands for that of the grid after the signs of its changes.
use Rattle.std.proofs.Common.{◌≡◌, ℕ, zero, suc, ◌+◌, ◌<◌, ◌≤◌, Bool, true, false, cond, ◌||◌, Option, Some, None, List, [], ◌∷◌, ◌++◌, length, map, set, get_or, refl, sym, ap, subst, ◌∙◌, append_assoc, length-append, arith}
use Rattle.std.specs.Prelude.{replicate}
use Rattle.std.proofs.lemmas.List.{get_or_at, get_or-set_same, length-set, length_push, set-get_or, set-set}
use Rattle.prodash_line.specs.CellRows.{char_columns}
use Rattle.prodash_tui.specs.declared.cell.Cell.{Cell}
use Rattle.prodash_tui.specs.declared.cell.Cell.TheVariants.{Holds, Half}
use Rattle.prodash_tui.specs.declared.cursor.Cursor.{Cursor}
use Rattle.prodash_tui.specs.declared.sign.Sign.{Sign}
use Rattle.prodash_tui.specs.declared.sign.Sign.TheVariants.{Char, MoveTo}
use Rattle.prodash_tui.specs.declared.style.Style.{Style}
use Rattle.prodash_tui.specs.Cells.{blank_cell, cell_at, same_cell}
use Rattle.prodash_tui.specs.Rows.{splice}
use Rattle.prodash_tui.specs.Differences.{IsProper, half_of, row_changes}
use Rattle.prodash_tui.specs.Displays.{Display, after_signs}
use Rattle.prodash_tui.specs.Frames.{are_certain, change_signs, changes_of, clearing, cursor_behind, is_certain, motion, row_cursor, row_signs, style_change}
use Rattle.prodash_tui.specs.Grids.{Sheet}
use Rattle.prodash_tui.specs.OtherWidths.{AreWidths, Stands}
use Rattle.prodash_base.specs.plumbing.EqualityTests.{sound}
use Rattle.prodash_tui.specs.plumbing.SameCells as same
use Rattle.prodash_tui.proofs.PlayedChanges.{IsWide, Join, Knows, after_append, half, knows_style, moved, moved_to, styled, styled_by, uncertain}
use Rattle.prodash_tui.proofs.ProperRows.{IsEnd, end_more, proper_end}
use Rattle.prodash_tui.proofs.RowDifferences.{or_true, wide_more}
use Rattle.prodash_tui.proofs.StandingCharacters.{IsRow, Leaves, cleared_left, fitting, row_width}
use Rattle.prodash_tui.proofs.StandingRows.{SameBut, stands_written}

-- ---- one change

-- a display with another row, which stands for these cells, and a known cursor
pub record Changed (y : ℕ) (cells : List Cell) (k : Option Cursor) (d e : Display) : Type 0 where
  pub row : List Cell
  pub stands : Stands row cells
  pub grid : e.grid ≡ record d.grid { rows = set d.grid.rows y row }
  pub wraps : e.wraps ≡ d.wraps
  pub knows : Knows k e

-- it is ready for the next change
row_again : (y : ℕ) (before cells : List Cell) (k : Option Cursor) (d e : Display) → IsRow y before d → length cells ≡ length before → Changed y cells k d e → IsRow y cells e
row_again y before cells k d e h size changed =
    let wide : e.grid.width ≡ d.grid.width = ap (λ (g : Sheet). g.width) changed.grid in
    let high : e.grid.height ≡ d.grid.height = ap (λ (g : Sheet). g.height) changed.grid in
    let many : length e.grid.rows ≡ length d.grid.rows = ap (λ (g : Sheet). length g.rows) changed.grid ∙ length-set d.grid.rows y changed.row in
    let shown : get_or e.grid.rows y [] ≡ changed.row = ap (λ (g : Sheet). get_or g.rows y []) changed.grid ∙ get_or-set_same d.grid.rows y changed.row [] h.inside in
    record {
      low = omega (arith, h.low);
      inside = omega (arith, h.inside);
      unwrapped = changed.wraps ∙ h.unwrapped;
      width = size ∙ h.width ∙ sym wide;
      stands = subst (λ (r : List Cell). Stands r cells) (sym shown) changed.stands;
    }

-- changes after which come others
changed_more : (y : ℕ) (some cells : List Cell) (j k : Option Cursor) (d e f : Display) → Changed y some j d e → Changed y cells k e f → Changed y cells k d f
changed_more y some cells j k d e f first second = record {
  row = second.row;
  stands = second.stands;
  grid = second.grid
      ∙ ap (λ (g : Sheet). record g { rows = set g.rows y second.row }) first.grid
      ∙ ap (λ (rows : List (List Cell)). record d.grid { rows = rows }) (set-set d.grid.rows y first.row second.row);
  wraps = second.wraps ∙ first.wraps;
  knows = second.knows;
}

join_there : (columns : ℕ → ℕ) → AreWidths columns → (js : List ℕ) → Join char_columns js → Join columns js
join_there columns widths [] join = tt
join_there columns widths (j ∷ js) join = ((widths.joining j).1 join.0, join_there columns widths js join.1)

positive : (n : ℕ) → (n ≡ 0 → ⊥) → (p : ℕ) × (n ≡ suc p)
positive zero some = absurd (some refl)
positive (suc p) some = (p, refl)

wide_some : (w : Bool) (n : ℕ) → IsWide w n → n ≡ 0 → ⊥
wide_some true n is none = omega arith
wide_some false n is none = omega arith

-- a character that every terminal shows in one column
record IsCertain (m : Bool) (c : ℕ) : Type 0 where
  narrow : m ≡ false
  certain : is_certain c ≡ true

certain_narrow : (m : Bool) (c : ℕ) (js : List ℕ) (style : Style) → are_certain (Holds c js style ∷ half m) ≡ true → IsCertain m c
certain_narrow true c js style is = absurd (uncertain c js style is)
certain_narrow false c [] style is = record { narrow = refl; certain = is }
certain_narrow false c (j ∷ js) style is = absurd (cc)

-- after a character that every terminal shows in one column, the cursor is known
certain_left : (columns : ℕ → ℕ) (c : ℕ) (js : List ℕ) (style : Style) (y x : ℕ) (cells others : List Cell) (d : Display)
    → columns c ≡ 1 → Join columns js → IsRow y cells d → x + 1 ≤ d.grid.width → length others ≡ length cells → SameBut x 1 cells others → cell_at others x ≡ Holds c js style
    → Changed y others (Some (record { row = y; column = x + 1; style = style })) d (after_signs columns (map Char (c ∷ js)) (styled_by style (moved_to y x d)))
certain_left columns c js style y x cells others d is join h fits size same at =
    let row = get_or d.grid.rows y [] in
    let width : length row ≡ d.grid.width = row_width y cells d h in
    let becomes = fitting columns false c js style y x cells d is join h fits in
    record {
      row = splice x (Holds c js style ∷ []) row;
      stands = stands_written x (Holds c js style) false row cells others (omega arith) h.stands size same at;
      grid = ap (λ (e : Display). e.grid) becomes;
      wraps = ap (λ (e : Display). e.wraps) becomes;
      knows = ap (λ (e : Display). e.cursor) becomes;
    }

-- after another one it isn't
left_changed : (y : ℕ) (others : List Cell) (style : Style) (d e : Display) → Leaves y others style d e → Changed y others None d e
left_changed y others style d e left = record {
  row = left.row;
  stands = left.stands;
  grid = ap (λ (f : Display). f.grid) left.is;
  wraps = ap (λ (f : Display). f.wraps) left.is;
  knows = tt;
}

-- the motion and the style before a character
placed : (columns : ℕ → ℕ) (y x : ℕ) (style : Style) (k : Option Cursor) (text : List Sign) (d : Display) → Knows k d → y < d.grid.height → x < d.grid.width
    → after_signs columns (motion y x k ++ (style_change style k ++ text)) d ≡ after_signs columns text (styled_by style (moved_to y x d))
placed columns y x style k text d knows low left =
    after_append columns (motion y x k) (style_change style k ++ text) d
    ∙ ap (after_signs columns (style_change style k ++ text)) (moved columns y x k d knows low left)
    ∙ after_append columns (style_change style k) text (moved_to y x d)
    ∙ ap (after_signs columns text) (styled columns style k (moved_to y x d) (knows_style k d y x knows))

-- the signs of a character in the row
change_left : (columns : ℕ → ℕ) → AreWidths columns → (m : Bool) (c : ℕ) (js : List ℕ) (style : Style) (y x : ℕ) (cells others : List Cell) (k : Option Cursor) (d : Display)
    → IsWide m (char_columns c) → Join char_columns js → IsRow y cells d → Knows k d → x + suc (length (half m)) ≤ d.grid.width → length others ≡ length cells
    → SameBut x (suc (length (half m))) cells others → cell_at others x ≡ Holds c js style
    → Changed y others (cursor_behind y x (Holds c js style ∷ half m) k) d (after_signs columns (change_signs y x (Holds c js style ∷ half m) k) d)
change_left columns widths m c js style y x cells others k d is join h knows fits size same at =
    let new = Holds c js style ∷ half m in
    let blanks = map Char (replicate (suc (length (half m))) 32) ++ MoveTo y x ∷ [] in
    let start = styled_by style (moved_to y x d) in
    let behind : Cursor = record { row = y; column = x + 1; style = style } in
    let joins = join_there columns widths js join in
    let some = positive (columns c) (λ (none : columns c ≡ 0). wide_some m (char_columns c) is ((widths.joining c).0 none)) in
    let Left : Bool → Type 0 = λ (t : Bool). are_certain new ≡ t → Changed y others (cond t (Some behind) None) d (after_signs columns (cond t [] blanks ++ map Char (c ∷ js)) start) in
    let go : (t : Bool) → Left t = λ t. elim t as Left [
      | true ↦ λ sure.
          let certain = certain_narrow m c js style sure in
          certain_left columns c js style y x cells others d (widths.certain c certain.certain) joins h (omega arith) size
          (subst (λ (b : Bool). SameBut x (suc (length (half b))) cells others) certain.narrow same) at
      | false ↦ λ sure.
          left_changed y others style d (after_signs columns (blanks ++ map Char (c ∷ js)) start)
          (cleared_left columns widths m some.0 c js style y x cells others d some.1 joins h fits size same at)
    ] in
    subst (λ (e : Display). Changed y others (cursor_behind y x new k) d e) (sym (placed columns y x style k (clearing y x new ++ map Char (c ∷ js)) d knows h.low (omega arith)))
    (go (are_certain new) refl)

-- ---- the changes of a row

same_behind : (xs ys rest : List Cell) (k : ℕ) → length ys ≡ length xs → (k < length xs → ⊥) → cell_at (ys ++ rest) k ≡ cell_at (xs ++ rest) k
same_behind [] [] rest k e out = refl
same_behind [] (y ∷ ys) rest k e out = absurd (omega (arith, e))
same_behind (x ∷ xs) [] rest k e out = absurd (omega (arith, e))
same_behind (x ∷ xs) (y ∷ ys) rest zero e out = absurd (out (omega arith))
same_behind (x ∷ xs) (y ∷ ys) rest (suc k) e out = same_behind xs ys rest k (omega (arith, e)) (λ (h : k < length xs). out (omega (arith, h)))

-- rows that differ in as many cells behind others
same_but : (done xs ys rest : List Cell) → length ys ≡ length xs → SameBut (length done) (length xs) (done ++ (xs ++ rest)) (done ++ (ys ++ rest))
same_but [] xs ys rest e k out = same_behind xs ys rest k e (λ (h : k < length xs). out (omega arith) (omega (arith, h)))
same_but (a ∷ done) xs ys rest e zero out = refl
same_but (a ∷ done) xs ys rest e (suc k) out = same_but done xs ys rest e k (λ (h : length done ≤ k) (i : k < length done + length xs). out (omega (arith, h)) (omega (arith, i)))

-- a display after these changes
abbrev After : (ℕ → ℕ) → ℕ → List Cell → List (ℕ × List Cell) → Option Cursor → Display → Type 0
After columns y cells changes k d = Changed y cells (row_cursor y changes k) d (after_signs columns (row_signs y changes k) d)

-- after one and others
after_more : (columns : ℕ → ℕ) (y x : ℕ) (new some cells : List Cell) (rest : List (ℕ × List Cell)) (k : Option Cursor) (d : Display)
    → Changed y some (cursor_behind y x new k) d (after_signs columns (change_signs y x new k) d)
    → After columns y cells rest (cursor_behind y x new k) (after_signs columns (change_signs y x new k) d) → After columns y cells ((x, new) ∷ rest) k d
after_more columns y x new some cells rest k d first second =
    let behind = cursor_behind y x new k in
    let next = after_signs columns (change_signs y x new k) d in
    subst (λ (e : Display). Changed y cells (row_cursor y rest behind) d e) (sym (after_append columns (change_signs y x new k) (row_signs y rest behind) d))
    (changed_more y some cells behind (row_cursor y rest behind) d next (after_signs columns (row_signs y rest behind) next) first second)

-- the claim of each end of a row
abbrev Draws : (ℕ → ℕ) → ℕ → List Cell → Type 0
Draws columns y new = (done old : List Cell) (k : Option Cursor) (d : Display) → IsEnd char_columns old → length old ≡ length new → IsRow y (done ++ old) d → Knows k d
    → After columns y (done ++ new) (row_changes same_cell (length done) old new) k d

-- it holds behind further cells
draws_behind : (columns : ℕ → ℕ) (y n : ℕ) (done cells old new : List Cell) → Draws columns y new → length (done ++ cells) ≡ n → IsEnd char_columns old → length old ≡ length new
    → (k : Option Cursor) (d : Display) → IsRow y (done ++ (cells ++ old)) d → Knows k d → After columns y (done ++ (cells ++ new)) (row_changes same_cell n old new) k d
draws_behind columns y n done cells old new draws at end size k d h knows =
    let drawn = draws (done ++ cells) old k d end size (subst (λ (r : List Cell). IsRow y r d) (sym (append_assoc done cells old)) h) knows in
    subst (λ (r : List Cell). After columns y r (row_changes same_cell n old new) k d) (append_assoc done cells new)
    (subst (λ (m : ℕ). After columns y ((done ++ cells) ++ new) (row_changes same_cell m old new) k d) at drawn)

-- the same where the first cell is a character of one column
narrow_draws : (columns : ℕ → ℕ) → AreWidths columns → (y c : ℕ) (js : List ℕ) (style : Style) (new : List Cell)
    → char_columns c ≡ 1 → Join char_columns js → half_of new ≡ [] → Draws columns y new → Draws columns y (Holds c js style ∷ new)
narrow_draws columns widths y c js style new one join alone others done [] k d end e h knows = absurd (omega arith)
narrow_draws columns widths y c js style new one join alone others done (a ∷ old) k d end e h knows =
    let b = Holds c js style in
    let n = length done in
    let rest = row_changes same_cell (n + 1) old new in
    let size : length (done ++ b ∷ old) ≡ length (done ++ a ∷ old) = length-append done (b ∷ old) ∙ sym (length-append done (a ∷ old)) in
    let fits : n + 1 ≤ d.grid.width = omega (arith, h.width, length-append done (a ∷ old)) in
    let behind = draws_behind columns y (n + 1) done (b ∷ []) old new others (length_push done b) (end_more char_columns a old end) (omega arith) in
    let Drawn : Bool → Type 0 = λ (t : Bool). same_cell a b ≡ t → After columns y (done ++ b ∷ new) (cond (t || false) rest ((n, b ∷ half_of new) ∷ rest)) k d in
    let go : (t : Bool) → Drawn t = λ t. elim t as Drawn [
      | true ↦ λ is. behind k d (subst (λ (x : Cell). IsRow y (done ++ x ∷ old) d) (sound same.cells a b is) h) knows
      | false ↦ λ is.
          let first = change_left columns widths false c js style y n (done ++ a ∷ old) (done ++ b ∷ old) k d one join h knows fits size (same_but done (a ∷ []) (b ∷ []) old refl)
          (get_or_at done b old blank_cell n refl) in
          let next = after_signs columns (change_signs y n (b ∷ []) k) d in
          let known = cursor_behind y n (b ∷ []) k in
          subst (λ (half : List Cell). After columns y (done ++ b ∷ new) ((n, b ∷ half) ∷ rest) k d) (sym alone)
          (after_more columns y n (b ∷ []) (done ++ b ∷ old) (done ++ b ∷ new) rest k d first (behind known next (row_again y (done ++ a ∷ old) (done ++ b ∷ old) known d next h size first) first.knows))
    ] in
    go (same_cell a b) refl

-- the same where the first two are a wide character
wide_draws : (columns : ℕ → ℕ) → AreWidths columns → (y c : ℕ) (js : List ℕ) (style : Style) (new : List Cell)
    → 2 ≤ char_columns c → Join char_columns js → Draws columns y new → Draws columns y (Holds c js style ∷ Half ∷ new)
wide_draws columns widths y c js style new wide join others done [] k d end e h knows = absurd (omega arith)
wide_draws columns widths y c js style new wide join others done (a ∷ []) k d end e h knows = absurd (omega arith)
wide_draws columns widths y c js style new wide join others done (a ∷ g ∷ old) k d end e h knows =
    let b = Holds c js style in
    let both = b ∷ Half ∷ [] in
    let n = length done in
    let later = row_changes same_cell (n + 1 + 1) old new in
    let rest = row_changes same_cell (n + 1) (g ∷ old) (Half ∷ new) in
    let skipped : later ≡ rest = ap (λ (t : Bool). cond t later ((n + 1, Half ∷ half_of new) ∷ later)) (sym (or_true (same_cell g Half))) in
    let size : length (done ++ b ∷ Half ∷ old) ≡ length (done ++ a ∷ g ∷ old) = length-append done (b ∷ Half ∷ old) ∙ sym (length-append done (a ∷ g ∷ old)) in
    let fits : n + 2 ≤ d.grid.width = omega (arith, h.width, length-append done (a ∷ g ∷ old)) in
    let behind = draws_behind columns y (n + 1 + 1) done both old new others (omega (arith, length-append done both)) (end_more char_columns g old (end_more char_columns a (g ∷ old) end)) (omega arith) in
    let Drawn : Bool → Type 0 = λ (t : Bool). same_cell a b ≡ t → After columns y (done ++ b ∷ Half ∷ new) (cond (t || false) later ((n, both) ∷ later)) k d in
    let go : (t : Bool) → Drawn t = λ t. elim t as Drawn [
      | true ↦ λ is.
          let equal : a ≡ b = sound same.cells a b is in
          let half_there = wide_more char_columns c js style g old wide (subst (λ (x : Cell). IsEnd char_columns (x ∷ g ∷ old)) equal end) in
          let shown = subst (λ (x : Cell). IsRow y (done ++ x ∷ g ∷ old) d) equal h in
          behind k d (subst (λ (x : Cell). IsRow y (done ++ b ∷ x ∷ old) d) half_there.0 shown) knows
      | false ↦ λ is.
          let first = change_left columns widths true c js style y n (done ++ a ∷ g ∷ old) (done ++ b ∷ Half ∷ old) k d wide join h knows fits size (same_but done (a ∷ g ∷ []) both old refl)
          (get_or_at done b (Half ∷ old) blank_cell n refl) in
          let next = after_signs columns (change_signs y n both k) d in
          let known = cursor_behind y n both k in
          after_more columns y n both (done ++ b ∷ Half ∷ old) (done ++ b ∷ Half ∷ new) later k d first
          (behind known next (row_again y (done ++ a ∷ g ∷ old) (done ++ b ∷ Half ∷ old) known d next h size first) first.knows)
    ] in
    let Chosen : List (ℕ × List Cell) → Type 0 = λ (changes : List (ℕ × List Cell)). After columns y (done ++ b ∷ Half ∷ new) (cond (same_cell a b || false) changes ((n, both) ∷ changes)) k d in
    subst Chosen skipped (go (same_cell a b) refl)

-- a row without changes
none_changed : (y : ℕ) (cells : List Cell) (k : Option Cursor) (d : Display) → IsRow y cells d → Knows k d → Changed y cells k d d
none_changed y cells k d h knows = record {
  row = get_or d.grid.rows y [];
  stands = h.stands;
  grid = ap (λ (rows : List (List Cell)). record d.grid { rows = rows }) (sym (set-get_or d.grid.rows y []));
  wraps = refl;
  knows = knows;
}

none_draws : (columns : ℕ → ℕ) (y : ℕ) → Draws columns y []
none_draws columns y done [] k d end e h knows = none_changed y (done ++ []) k d h knows
none_draws columns y done (a ∷ old) k d end e h knows = absurd (omega arith)

-- the claim of every proper row
draws : (columns : ℕ → ℕ) → AreWidths columns → (y : ℕ) (new : List Cell) → IsProper char_columns new → Draws columns y new
draws columns widths y [] proper = none_draws columns y
draws columns widths y (Half ∷ new) proper = absurd proper
draws columns widths y (Holds c js style ∷ []) proper = narrow_draws columns widths y c js style [] proper.0 proper.1 refl (draws columns widths y [] tt)
draws columns widths y (Holds c js style ∷ Half ∷ new) proper = wide_draws columns widths y c js style new proper.0 proper.1 (draws columns widths y new proper.2)
draws columns widths y (Holds c js style ∷ Holds e ks look ∷ new) proper =
    narrow_draws columns widths y c js style (Holds e ks look ∷ new) proper.0 proper.1 refl (draws columns widths y (Holds e ks look ∷ new) proper.2)

-- a row that stands for the one before stands for the next one after its changes
pub row_drawn : (columns : ℕ → ℕ) → AreWidths columns → (y : ℕ) (old new : List Cell) (k : Option Cursor) (d : Display) → IsProper char_columns old → IsProper char_columns new
    → length old ≡ length new → IsRow y old d → Knows k d → Changed y new (row_cursor y (changes_of old new) k) d (after_signs columns (row_signs y (changes_of old new) k) d)
row_drawn columns widths y old new k d before after size h knows = draws columns widths y new after [] old k d (proper_end char_columns old before) size h knows
