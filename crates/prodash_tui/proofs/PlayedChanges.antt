-- What a display shows after the signs of changes.
use Rattle.std.proofs.Common.{◌≡◌, ℕ, zero, suc, ◌+◌, ◌-◌, ◌<◌, ◌≤◌, Bool, true, false, cond, ◌&&◌, nat_eq, nat_lt, Option, Some, None, List, [], ◌∷◌, ◌++◌, length, map, set, get_or, drop, refl, sym, ap, subst, ◌∙◌, append_assoc, append-nil, arith}
use Rattle.std.specs.Prelude.{min, replicate, ⊤}
use Rattle.std.specs.List.{AllByRecursion}
use Rattle.std.proofs.lemmas.Bool.{and_parts}
use Rattle.std.proofs.lemmas.Bool.Decides.{nat_tests}
use Rattle.std.proofs.lemmas.List.{get_or_at, get_or-append-add, get_or-set_same, length-replicate, length-set, set-get_or, set-set, set_at}
use Rattle.prodash_tui.specs.declared.cell.Cell.{Cell}
use Rattle.prodash_tui.specs.declared.cell.Cell.TheVariants.{Holds, Half}
use Rattle.prodash_tui.specs.declared.cursor.Cursor.{Cursor}
use Rattle.prodash_tui.specs.declared.sign.Sign.{Sign}
use Rattle.prodash_tui.specs.declared.sign.Sign.TheVariants.{Char, MoveTo, SetStyle}
use Rattle.prodash_tui.specs.declared.style.Style.{Style}
use Rattle.prodash_tui.specs.Cells.{blank_cell, cell_at, cell_of, is_half, same_style}
use Rattle.prodash_tui.specs.Rows.{front, healed, splice}
use Rattle.prodash_tui.specs.Texts.{cells_with, cut}
use Rattle.prodash_tui.specs.Grids.{Sheet}
use Rattle.prodash_tui.specs.Differences.{redrawn}
use Rattle.prodash_tui.specs.Displays.{Display, after_char, after_sign, after_signs, at_next_row, goes_on, in_cursor_row, join_before, more_joined, with_wrapped, with_written}
use Rattle.prodash_tui.specs.Frames.{are_certain, change_signs, clearing, cursor_behind, is_at, motion, row_cursor, row_signs, style_change}
use Rattle.prodash_base.specs.plumbing.EqualityTests.{numbers, sound}
use Rattle.prodash_tui.specs.plumbing.SameCells.{styles}
use Rattle.prodash_tui.proofs.SplicedRows.{length-front, length-splice, splice_again, splice_more}
use Rattle.prodash_tui.proofs.WrittenTexts.{cut_all}

-- signs, and then others
pub after_append : (columns : ℕ → ℕ) (a b : List Sign) (d : Display) → after_signs columns (a ++ b) d ≡ after_signs columns b (after_signs columns a d)
after_append columns [] b d = refl
after_append columns (s ∷ a) b d = after_append columns a b (after_sign columns s d)

-- what is known of the cursor is so
abbrev pub Knows : Option Cursor → Display → Type 0
Knows None d = ⊤
Knows (Some cursor) d = d.cursor ≡ cursor

-- ---- motions and styles

abbrev pub moved_to : ℕ → ℕ → Display → Display
moved_to row column d = record d { cursor = record d.cursor { row = row; column = column } }

-- a motion inside the display
move_inside : (columns : ℕ → ℕ) (row column : ℕ) (d : Display) → row < d.grid.height → column < d.grid.width → after_sign columns (MoveTo row column) d ≡ moved_to row column d
move_inside columns row column d low left =
    let r : min row (d.grid.height - 1) ≡ row = omega arith in
    let c : min column (d.grid.width - 1) ≡ column = omega arith in
    λ i. moved_to (r i) (c i) d

pub moved : (columns : ℕ → ℕ) (row column : ℕ) (k : Option Cursor) (d : Display) → Knows k d → row < d.grid.height → column < d.grid.width
    → after_signs columns (motion row column k) d ≡ moved_to row column d
moved columns row column None d knows low left = move_inside columns row column d low left
moved columns row column (Some cursor) d knows low left =
    let go : (b : Bool) → is_at row column cursor ≡ b → after_signs columns (cond b [] (MoveTo row column ∷ [])) d ≡ moved_to row column d =
    λ b. elim b as (λ b. is_at row column cursor ≡ b → after_signs columns (cond b [] (MoveTo row column ∷ [])) d ≡ moved_to row column d) [
      | true ↦ λ is.
          let parts = and_parts (nat_eq cursor.row row) (nat_eq cursor.column column) is in
          let r : d.cursor.row ≡ row = ap (λ (c : Cursor). c.row) knows ∙ sound numbers cursor.row row parts.0 in
          let c : d.cursor.column ≡ column = ap (λ (c : Cursor). c.column) knows ∙ sound numbers cursor.column column parts.1 in
          λ i. moved_to (r i) (c i) d
      | false ↦ λ is. move_inside columns row column d low left
    ] in
    go (is_at row column cursor) refl

abbrev pub styled_by : Style → Display → Display
styled_by style d = record d { cursor = record d.cursor { style = style } }

-- the present style is the known one
abbrev pub KnowsStyle : Option Cursor → Display → Type 0
KnowsStyle None d = ⊤
KnowsStyle (Some cursor) d = d.cursor.style ≡ cursor.style

pub knows_style : (k : Option Cursor) (d : Display) (row column : ℕ) → Knows k d → KnowsStyle k (moved_to row column d)
knows_style None d row column knows = tt
knows_style (Some cursor) d row column knows = ap (λ (c : Cursor). c.style) knows

pub styled : (columns : ℕ → ℕ) (style : Style) (k : Option Cursor) (d : Display) → KnowsStyle k d → after_signs columns (style_change style k) d ≡ styled_by style d
styled columns style None d knows = refl
styled columns style (Some cursor) d knows =
    let go : (b : Bool) → same_style cursor.style style ≡ b → after_signs columns (cond b [] (SetStyle style ∷ [])) d ≡ styled_by style d =
    λ b. elim b as (λ b. same_style cursor.style style ≡ b → after_signs columns (cond b [] (SetStyle style ∷ [])) d ≡ styled_by style d) [
      | true ↦ λ is.
          let s : d.cursor.style ≡ style = knows ∙ sound styles cursor.style style is in
          λ i. styled_by (s i) d
      | false ↦ λ is. refl
    ] in
    go (same_style cursor.style style) refl

-- ---- characters

-- the second half, if the character is wide
abbrev pub half : Bool → List Cell
half true = Half ∷ []
half false = []

-- a character of so many columns is wide, or it has one
abbrev pub IsWide : Bool → ℕ → Type 0
IsWide true n = 2 ≤ n
IsWide false n = n ≡ 1

abbrev pub Join : (ℕ → ℕ) → List ℕ → Type 0
Join columns js = AllByRecursion (λ d. columns d ≡ 0) js

char_cells : (style : Style) (w : Bool) (n c : ℕ) → IsWide w n → cells_with style n c [] [] ≡ Holds c [] style ∷ half w
char_cells style true zero c is = absurd (omega arith)
char_cells style true (suc zero) c is = absurd (omega arith)
char_cells style true (suc (suc n)) c is = refl
char_cells style false zero c is = absurd (omega arith)
char_cells style false (suc zero) c is = refl
char_cells style false (suc (suc n)) c is = absurd (omega arith)

-- a display with these cells in a row, and the cursor behind them
abbrev pub written_at : ℕ → ℕ → ℕ → List Cell → Style → Display → Display
written_at row column n cells style d =
    record d { grid = record d.grid { rows = set d.grid.rows row cells }; cursor = record { row = row; column = column + n; style = style } }

and_false : (b : Bool) → (b && false) ≡ false
and_false true = refl
and_false false = refl

-- cells that have room at the cursor are written there
stays_in_row : (new : List Cell) (d : Display) → d.cursor.column + length new ≤ d.grid.width → with_wrapped new d ≡ with_written new d
stays_in_row new d fits =
    let room : nat_lt d.grid.width (d.cursor.column + length new) ≡ false = grind (arith, nat_tests) in
    let stays : goes_on new d ≡ false = ap (λ (b : Bool). d.wraps && b) room ∙ and_false d.wraps in
    ap (λ (b : Bool). with_written new (cond b (at_next_row d) d)) stays

pub char_written : (w : Bool) (n c : ℕ) (d : Display) → IsWide w n → d.cursor.column + (suc (length (half w))) ≤ d.grid.width
    → after_char n c d
    ≡ written_at d.cursor.row d.cursor.column (suc (length (half w))) (splice d.cursor.column (Holds c [] d.cursor.style ∷ half w) (get_or d.grid.rows d.cursor.row [])) d.cursor.style d
char_written true zero c d is fits = absurd (omega arith)
char_written false zero c d is fits = absurd (omega arith)
char_written w (suc n) c d is fits =
    let new = Holds c [] d.cursor.style ∷ half w in
    let x : min d.cursor.column (d.grid.width - length new) ≡ d.cursor.column = omega arith in
    ap (λ (cells : List Cell). with_wrapped (cut d.grid.width cells) d) (char_cells d.cursor.style w (suc n) c is)
    ∙ ap (λ (cells : List Cell). with_wrapped cells d) (cut_all d.grid.width new (omega arith))
    ∙ stays_in_row new d fits
    ∙ ap (λ (m : ℕ). record (in_cursor_row (splice m new) d) { cursor = record d.cursor { column = m + length new } }) x

-- so are any cells where nothing wraps
pub stays_unwrapped : (new : List Cell) (d : Display) → d.wraps ≡ false → with_wrapped new d ≡ with_written new d
stays_unwrapped new d unwrapped =
    let stays : goes_on new d ≡ false = ap (λ (b : Bool). b && nat_lt d.grid.width (d.cursor.column + length new)) unwrapped in
    ap (λ (b : Bool). with_written new (cond b (at_next_row d) d)) stays

-- a character joins one behind others
joined_row : (w : Bool) (p rest : List Cell) (c : ℕ) (done : List ℕ) (style : Style) (j n : ℕ) → length p ≡ n
    → join_before (n + (suc (length (half w)))) j (p ++ ((Holds c done style ∷ half w) ++ rest)) ≡ p ++ ((Holds c (done ++ j ∷ []) style ∷ half w) ++ rest)
joined_row false p rest c done style j n at =
    let a = Holds c done style in
    let row = p ++ a ∷ rest in
    let cell : cell_at row n ≡ a = get_or_at p a rest blank_cell n at in
    ap (λ (m : ℕ). join_before m j row) (let e : n + 1 ≡ suc n = omega arith in e)
    ∙ ap (λ (h : Cell). let m = cond (is_half h) (n - 1) n in set row m (more_joined j (cell_at row m))) cell
    ∙ ap (λ (h : Cell). set row n (more_joined j h)) cell
    ∙ set_at p a rest (Holds c (done ++ j ∷ []) style) n at
joined_row true p rest c done style j n at =
    let a = Holds c done style in
    let row = p ++ a ∷ Half ∷ rest in
    let cell : cell_at row n ≡ a = get_or_at p a (Half ∷ rest) blank_cell n at in
    let other : cell_at row (n + 1) ≡ Half = ap (λ (m : ℕ). cell_at row (m + 1)) (sym at) ∙ get_or-append-add p (a ∷ Half ∷ rest) 1 blank_cell in
    ap (λ (m : ℕ). join_before m j row) (let e : n + 2 ≡ suc (n + 1) = omega arith in e)
    ∙ ap (λ (h : Cell). let m = cond (is_half h) (n + 1 - 1) (n + 1) in set row m (more_joined j (cell_at row m))) other
    ∙ ap (λ (m : ℕ). set row m (more_joined j (cell_at row m))) (let e : n + 1 - 1 ≡ n = omega arith in e)
    ∙ ap (λ (h : Cell). set row n (more_joined j h)) cell
    ∙ set_at p a (Half ∷ rest) (Holds c (done ++ j ∷ []) style) n at

abbrev pub with_joined : Bool → ℕ → List ℕ → Style → ℕ → ℕ → List Cell → Display → Display
with_joined w c js style row column cells d = written_at row column (suc (length (half w))) (splice column (Holds c js style ∷ half w) cells) style d

-- a display with these rows
abbrev pub written_at_rows : ℕ → ℕ → List (List Cell) → Style → Display → Display
written_at_rows row column rows style d = record d { grid = record d.grid { rows = rows }; cursor = record { row = row; column = column; style = style } }

-- one character of no column behind the one that was written
join_one : (columns : ℕ → ℕ) (w : Bool) (c : ℕ) (style : Style) (row column : ℕ) (cells : List Cell) (e : Display) (done : List ℕ) (j : ℕ)
    → columns j ≡ 0 → column ≤ length cells → row < length e.grid.rows
    → after_sign columns (Char j) (with_joined w c done style row column cells e) ≡ with_joined w c (done ++ j ∷ []) style row column cells e
join_one columns w c style row column cells e done j none fits inside =
    let d = with_joined w c done style row column cells e in
    let new = splice column (Holds c done style ∷ half w) cells in
    let rest = healed (drop (column + length (Holds c done style ∷ half w)) cells) in
    let at = column + (suc (length (half w))) in
    ap (λ (n : ℕ). after_char n j d) none
    ∙ ap (λ (r : List Cell). written_at_rows row at (set (set e.grid.rows row new) row (join_before at j r)) style e) (get_or-set_same e.grid.rows row new [] inside)
    ∙ ap (λ (r : List Cell). written_at_rows row at (set (set e.grid.rows row new) row r) style e)
    (joined_row w (front column cells) rest c done style j column (length-front column cells fits))
    ∙ ap (λ (rs : List (List Cell)). written_at_rows row at rs style e) (set-set e.grid.rows row new (splice column (Holds c (done ++ j ∷ []) style ∷ half w) cells))

-- all of them
pub join_all : (columns : ℕ → ℕ) (w : Bool) (c : ℕ) (style : Style) (row column : ℕ) (cells : List Cell) (e : Display) (js done : List ℕ)
    → Join columns js → column ≤ length cells → row < length e.grid.rows
    → after_signs columns (map Char js) (with_joined w c done style row column cells e) ≡ with_joined w c (done ++ js) style row column cells e
join_all columns w c style row column cells e [] done join fits inside = ap (λ (ks : List ℕ). with_joined w c ks style row column cells e) (sym (append-nil done))
join_all columns w c style row column cells e (j ∷ js) done join fits inside =
    ap (after_signs columns (map Char js)) (join_one columns w c style row column cells e done j join.0 fits inside)
    ∙ join_all columns w c style row column cells e js (done ++ j ∷ []) join.1 fits inside
    ∙ ap (λ (ks : List ℕ). with_joined w c ks style row column cells e) (append_assoc done (j ∷ []) js)

-- ---- changes

-- one character, with those that have joined it
abbrev pub IsCharacter : (ℕ → ℕ) → List Cell → Type 0
IsCharacter columns (Holds c js style ∷ []) = (columns c ≡ 1) × Join columns js
IsCharacter columns (Holds c js style ∷ Half ∷ []) = (2 ≤ columns c) × Join columns js
IsCharacter columns _ = ⊥

-- a row of a display, and a known cursor
pub record IsReady (row : ℕ) (k : Option Cursor) (d : Display) : Type 0 where
  pub knows : Knows k d
  pub low : row < d.grid.height
  pub inside : row < length d.grid.rows
  pub width : length (get_or d.grid.rows row []) ≡ d.grid.width

-- a blank in the row of the cursor
blank_written : (columns : ℕ → ℕ) → columns 32 ≡ 1 → (row column : ℕ) (style : Style) (cells : List Cell) (e : Display) → get_or e.grid.rows row [] ≡ cells → column < e.grid.width
    → after_sign columns (Char 32) (written_at_rows row column e.grid.rows style e) ≡ written_at row column 1 (splice column (cell_of style 32 ∷ []) cells) style e
blank_written columns space row column style cells e shown room =
    let there = written_at_rows row column e.grid.rows style e in
    char_written false (columns 32) 32 there space (omega arith) ∙ ap (λ (r : List Cell). written_at row column 1 (splice column (cell_of style 32 ∷ []) r) style e) shown

-- blanks in the cells of a character, narrow or wide, and the cursor back at the first of them
pub cleared : (columns : ℕ → ℕ) → columns 32 ≡ 1 → (w : Bool) (row column : ℕ) (style : Style) (d : Display) → row < d.grid.height → row < length d.grid.rows
    → length (get_or d.grid.rows row []) ≡ d.grid.width → column + (suc (length (half w))) ≤ d.grid.width
    → after_signs columns (map Char (replicate (suc (length (half w))) 32) ++ MoveTo row column ∷ []) (styled_by style (moved_to row column d))
    ≡ written_at_rows row column (set d.grid.rows row (splice column (replicate (suc (length (half w))) (cell_of style 32)) (get_or d.grid.rows row []))) style d
cleared columns space false row column style d low inside width fits =
    let cells = get_or d.grid.rows row [] in
    let next = written_at row column 1 (splice column (cell_of style 32 ∷ []) cells) style d in
    ap (λ (e : Display). after_sign columns (MoveTo row column) e) (blank_written columns space row column style cells d refl (omega arith)) ∙ move_inside columns row column next low (omega arith)
cleared columns space true row column style d low inside width fits =
    let cells = get_or d.grid.rows row [] in
    let a = cell_of style 32 in
    let one = splice column (a ∷ []) cells in
    let two = splice column (a ∷ a ∷ []) cells in
    let next = written_at row column 1 one style d in
    let last = written_at row (column + 1) 1 two style d in
    let both : written_at row (column + 1) 1 (splice (column + 1) (a ∷ []) one) style next ≡ last =
    (λ i. record d {
      grid = record d.grid { rows = (set-set d.grid.rows row one (splice (column + 1) (a ∷ []) one) ∙ ap (λ (r : List Cell). set d.grid.rows row r) (splice_more column (a ∷ []) (a ∷ []) cells (omega arith))) i };
      cursor = record { row = row; column = column + 1 + 1; style = style };
    }) in
    ap (λ (e : Display). after_signs columns (Char 32 ∷ MoveTo row column ∷ []) e) (blank_written columns space row column style cells d refl (omega arith))
    ∙ ap (λ (e : Display). after_sign columns (MoveTo row column) e)
    (blank_written columns space row (column + 1) style one next (get_or-set_same d.grid.rows row one [] inside) (omega arith) ∙ both)
    ∙ move_inside columns row column last low (omega arith)

-- a character over blanks
over_blanks : (columns : ℕ → ℕ) (w : Bool) (c : ℕ) (row column : ℕ) (style : Style) (d : Display) → IsWide w (columns c) → row < length d.grid.rows
    → length (get_or d.grid.rows row []) ≡ d.grid.width → column + (suc (length (half w))) ≤ d.grid.width
    → after_sign columns (Char c) (written_at_rows row column (set d.grid.rows row (splice column (replicate (suc (length (half w))) (cell_of style 32)) (get_or d.grid.rows row []))) style d)
    ≡ with_joined w c [] style row column (get_or d.grid.rows row []) d
over_blanks columns w c row column style d is inside width fits =
    let cells = get_or d.grid.rows row [] in
    let n = suc (length (half w)) in
    let blanked = splice column (replicate n (cell_of style 32)) cells in
    let e = written_at_rows row column (set d.grid.rows row blanked) style d in
    let new = Holds c [] style ∷ half w in
    char_written w (columns c) c e is fits
    ∙ ap (λ (r : List Cell). written_at row column n (splice column new r) style e) (get_or-set_same d.grid.rows row blanked [] inside)
    ∙ ap (λ (r : List Cell). written_at row column n r style e)
    (splice_again column (cell_of style 32) (replicate (length (half w)) (cell_of style 32)) new cells (omega arith) refl (ap suc (length-replicate (length (half w)) (cell_of style 32))))
    ∙ ap (λ (rs : List (List Cell)). written_at_rows row (column + n) rs style d) (set-set d.grid.rows row blanked (splice column new cells))

-- a character, and those that join it, over blanks or over what is shown
text_played : (columns : ℕ → ℕ) → columns 32 ≡ 1 → (t w : Bool) (c : ℕ) (js : List ℕ) (style : Style) (row column : ℕ) (k : Option Cursor) (d : Display)
    → IsWide w (columns c) → Join columns js → IsReady row k d → column + (suc (length (half w))) ≤ d.grid.width
    → after_signs columns (cond t [] (map Char (replicate (suc (length (half w))) 32) ++ MoveTo row column ∷ []) ++ map Char (c ∷ js)) (styled_by style (moved_to row column d))
    ≡ with_joined w c js style row column (get_or d.grid.rows row []) d
text_played columns space true w c js style row column k d is join ready fits =
    let width : length (get_or d.grid.rows row []) ≡ d.grid.width = ready.width in
    ap (after_signs columns (map Char js)) (char_written w (columns c) c (styled_by style (moved_to row column d)) is fits)
    ∙ join_all columns w c style row column (get_or d.grid.rows row []) d js [] join (omega arith) ready.inside
text_played columns space false w c js style row column k d is join ready fits =
    let width : length (get_or d.grid.rows row []) ≡ d.grid.width = ready.width in
    after_append columns (map Char (replicate (suc (length (half w))) 32) ++ MoveTo row column ∷ []) (map Char (c ∷ js)) (styled_by style (moved_to row column d))
    ∙ ap (after_signs columns (map Char (c ∷ js))) (cleared columns space w row column style d ready.low ready.inside ready.width fits)
    ∙ ap (after_signs columns (map Char js)) (over_blanks columns w c row column style d is ready.inside ready.width fits)
    ∙ join_all columns w c style row column (get_or d.grid.rows row []) d js [] join (omega arith) ready.inside

-- a character of these cells
change_played : (columns : ℕ → ℕ) → columns 32 ≡ 1 → (w : Bool) (c : ℕ) (js : List ℕ) (style : Style) (row column : ℕ) (k : Option Cursor) (d : Display)
    → IsWide w (columns c) → Join columns js → IsReady row k d → column + (suc (length (half w))) ≤ d.grid.width
    → after_signs columns (change_signs row column (Holds c js style ∷ half w) k) d ≡ with_joined w c js style row column (get_or d.grid.rows row []) d
change_played columns space w c js style row column k d is join ready fits =
    let new = Holds c js style ∷ half w in
    let styling = style_change style k in
    let text = clearing row column new ++ map Char (c ∷ js) in
    let there = moved_to row column d in
    let width : length (get_or d.grid.rows row []) ≡ d.grid.width = ready.width in
    after_append columns (motion row column k) (styling ++ text) d
    ∙ ap (after_signs columns (styling ++ text)) (moved columns row column k d ready.knows ready.low (omega arith))
    ∙ after_append columns styling text there
    ∙ ap (after_signs columns text) (styled columns style k there (knows_style k d row column ready.knows))
    ∙ text_played columns space (are_certain new) w c js style row column k d is join ready fits

-- a character of two columns isn't shown in one by every terminal
pub uncertain : (c : ℕ) (js : List ℕ) (style : Style) → are_certain (Holds c js style ∷ Half ∷ []) ≡ true → ⊥
uncertain c [] style is = cc
uncertain c (j ∷ js) style is = cc

-- what a change leaves
pub record IsDrawn (row : ℕ) (cells : List Cell) (k : Option Cursor) (g : Sheet) (d : Display) : Type 0 where
  pub grid : d.grid ≡ record g { rows = set g.rows row cells }
  pub knows : Knows k d

-- the cursor behind a character, if it is known
knows_behind : (t : Bool) (k : Cursor) (d : Display) → (t ≡ true → d.cursor ≡ k) → Knows (cond t (Some k) None) d
knows_behind true k d is = is refl
knows_behind false k d is = tt

drawn_change : (columns : ℕ → ℕ) → columns 32 ≡ 1 → (row column : ℕ) (cells : List Cell) (k : Option Cursor) (d : Display)
    → IsCharacter columns cells → IsReady row k d → column + length cells ≤ d.grid.width
    → IsDrawn row (splice column cells (get_or d.grid.rows row [])) (cursor_behind row column cells k) d.grid (after_signs columns (change_signs row column cells k) d)
drawn_change columns space row column [] k d is ready fits = absurd is
drawn_change columns space row column (Half ∷ cells) k d is ready fits = absurd is
drawn_change columns space row column (Holds c js style ∷ []) k d is ready fits =
    let played = change_played columns space false c js style row column k d is.0 is.1 ready (omega arith) in
    let next = after_signs columns (change_signs row column (Holds c js style ∷ []) k) d in
    record {
      grid = ap (λ (e : Display). e.grid) played;
      knows = knows_behind (are_certain (Holds c js style ∷ [])) (record { row = row; column = column + 1; style = style }) next (λ is. ap (λ (e : Display). e.cursor) played);
    }
drawn_change columns space row column (Holds c js style ∷ Half ∷ []) k d is ready fits =
    let played = change_played columns space true c js style row column k d is.0 is.1 ready (omega arith) in
    let next = after_signs columns (change_signs row column (Holds c js style ∷ Half ∷ []) k) d in
    record {
      grid = ap (λ (e : Display). e.grid) played;
      knows = knows_behind (are_certain (Holds c js style ∷ Half ∷ [])) (record { row = row; column = column + 1; style = style }) next (λ is. absurd (uncertain c js style is));
    }
drawn_change columns space row column (Holds c js style ∷ Half ∷ a ∷ cells) k d is ready fits = absurd is
drawn_change columns space row column (Holds c js style ∷ Holds e ks look ∷ cells) k d is ready fits = absurd is

-- changes that are characters inside a row of this width
abbrev pub Fit : (ℕ → ℕ) → ℕ → List (ℕ × List Cell) → Type 0
Fit columns width changes = AllByRecursion (λ c. IsCharacter columns c.1 × (c.0 + length c.1 ≤ width)) changes

pub drawn_row : (columns : ℕ → ℕ) → columns 32 ≡ 1 → (row : ℕ) (changes : List (ℕ × List Cell)) (k : Option Cursor) (d : Display) → Fit columns d.grid.width changes → IsReady row k d
    → IsDrawn row (redrawn changes (get_or d.grid.rows row [])) (row_cursor row changes k) d.grid (after_signs columns (row_signs row changes k) d)
drawn_row columns space row [] k d fit ready = record { grid = ap (λ (rs : List (List Cell)). record d.grid { rows = rs }) (sym (set-get_or d.grid.rows row [])); knows = ready.knows }
drawn_row columns space row (c ∷ changes) k d fit ready =
    let cells = get_or d.grid.rows row [] in
    let new = splice c.0 c.1 cells in
    let next = after_signs columns (change_signs row c.0 c.1 k) d in
    let behind = cursor_behind row c.0 c.1 k in
    let first = drawn_change columns space row c.0 c.1 k d fit.0.0 ready fit.0.1 in
    let same : get_or next.grid.rows row [] ≡ new = ap (λ (g : Sheet). get_or g.rows row []) first.grid ∙ get_or-set_same d.grid.rows row new [] ready.inside in
    let wide : next.grid.width ≡ d.grid.width = ap (λ (g : Sheet). g.width) first.grid in
    let high : next.grid.height ≡ d.grid.height = ap (λ (g : Sheet). g.height) first.grid in
    let many : length next.grid.rows ≡ length d.grid.rows = ap (λ (g : Sheet). length g.rows) first.grid ∙ length-set d.grid.rows row new in
    let size : length new ≡ length cells = length-splice c.0 c.1 cells (omega (arith, ready.width, fit.0.1)) in
    let others = drawn_row columns space row changes behind next (subst (λ (n : ℕ). Fit columns n changes) (sym wide) fit.1)
    (record { knows = first.knows; low = omega (arith, ready.low); inside = omega (arith, ready.inside); width = ap length same ∙ size ∙ ready.width ∙ sym wide }) in
    let split = after_append columns (change_signs row c.0 c.1 k) (row_signs row changes behind) d in
    subst (IsDrawn row (redrawn changes new) (row_cursor row changes behind) d.grid) (sym split)
    (record {
      grid = others.grid
          ∙ ap (λ (r : List Cell). record next.grid { rows = set next.grid.rows row (redrawn changes r) }) same
          ∙ ap (λ (g : Sheet). record g { rows = set g.rows row (redrawn changes new) }) first.grid
          ∙ ap (λ (rs : List (List Cell)). record d.grid { rows = rs }) (set-set d.grid.rows row new (redrawn changes new));
      knows = others.knows;
    })
