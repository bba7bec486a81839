-- Lines of rows that are kept from one frame to the next.
use Rattle.std.proofs.Common.{◌≡◌, ℕ, zero, suc, ◌+◌, ◌-◌, Bool, true, false, List, [], ◌∷◌, ◌++◌, length, take, drop, get_or, drop-cons, ◌<◌, ◌≤◌, length-drop, refl, sym, ap, subst, ◌∙◌, append_assoc, length-append, arith, cond, not, Option, Some, None}
use Rattle.std.specs.Prelude.{◌&&◌, ◌||◌, slice_get}
use Rattle.std.specs.Option.{option_map}
use Rattle.std.proofs.lemmas.List.{map-append, take_at, drop_at, drop-append-le, length-take-le}
use Rattle.std.proofs.lemmas.List.Elements.{All-weaker}
use Rattle.std.proofs.lemmas.Option.{slice_get-map}
use Rattle.prodash_base.specs.Rows.{PathRow, RowProgress, row_of, rows_of, same_rows}
use Rattle.prodash_base.specs.plumbing.EqualityTests.{sound}
use Rattle.prodash_base.specs.plumbing.SameRows as same
use Rattle.prodash_base.specs.declared.progress.Row.{Row}
use Rattle.prodash_base.specs.declared.timing.task_time.TaskTime.{TaskTime}
use Rattle.prodash_base.specs.declared.unit.display.Throughput.{Throughput}
use Rattle.prodash_line.specs.declared.render.line.draw.input.Options.{Options}
use Rattle.prodash_line.specs.declared.render.line.draw.latest_rows.LineSize.{LineSize}
use Rattle.prodash_line.specs.declared.render.line.draw.latest_rows.RowLine.{RowLine}
use Rattle.prodash_line.specs.declared.render.line.draw.action.Action.{Action}
use Rattle.prodash_line.specs.declared.render.line.draw.action.Action.TheVariants.{Close, Leave, Redraw}
use Rattle.prodash_line.specs.DrawnLines.{as_drawn, drawn_chars, layout_of}
use Rattle.prodash_line.specs.Frames.{row_start}
use Rattle.prodash_line.specs.Lines.{Line, columns_of, spaces, styled}
use Rattle.prodash_line.specs.ProgressRows.{DrawnRow, bar, bar_columns, filtered, head_of, is_row_drawn, midpoint_of, midpoint_with, row_line, row_line_with, values_of, with_time}
use Rattle.prodash_line.specs.Renderer.{Renderer, closes_at, draws_again, idle_action, is_drawn, rows_changed, tick_action, times_go_on}
use Rattle.prodash_line.specs.Signs.{spelling}
use Rattle.prodash_line.specs.TextStyles.{name_style, row_style}
use Rattle.prodash_line.specs.plumbing.KeptLines.{AreAlike, AreAmong, IsAmong, IsAt, IsPlaced, IsSizeOf, IsWritten, kept_line, line_size, own_bytes, untimed_line}
use Rattle.prodash_line.specs.plumbing.OverwriteBytes.{row_end}
use Rattle.prodash_line.specs.plumbing.Writing.{line_bytes}

-- ---- rows that are alike

heads : (defensive : Bool) (row other : PathRow) → AreAlike row other → head_of defensive row ≡ head_of defensive other
heads defensive row other h = λ i. spaces (h.level i) ∷ styled (Some (name_style (h.progress i))) (drawn_chars defensive (h.name i)) ∷ []

-- the line of a row, by what it begins with
abbrev line_from : Bool → ℕ → Option ℕ → ℕ → Option Throughput → Option TaskTime → Line → Option RowProgress → Line
line_from defensive width most midpoint throughput time head None = head
line_from defensive width most midpoint throughput time head (Some p) =
    let own = columns_of (head ++ (spaces 1 ∷ values_of defensive p throughput)) in
    let values = with_time defensive width (head ++ (spaces 1 ∷ spaces (midpoint - own) ∷ values_of defensive p throughput)) time in
    values ++ bar (row_style p) (bar_columns most (width - columns_of values)) p.counter p.bound

by_head : (defensive : Bool) (width : ℕ) (most : Option ℕ) (midpoint : ℕ) (throughput : Option Throughput) (time : Option TaskTime) (row : PathRow) (progress : Option RowProgress)
    → row_line_with defensive width most midpoint row progress throughput time ≡ line_from defensive width most midpoint throughput time (head_of defensive row) progress
by_head defensive width most midpoint throughput time row None = refl
by_head defensive width most midpoint throughput time row (Some p) = refl

alike_row_line : (defensive : Bool) (width : ℕ) (most : Option ℕ) (midpoint : ℕ) (throughput : Option Throughput) (time : Option TaskTime) (row other : PathRow) → AreAlike row other
    → row_line defensive width most midpoint (row, throughput) time ≡ row_line defensive width most midpoint (other, throughput) time
alike_row_line defensive width most midpoint throughput time row other h =
    by_head defensive width most midpoint throughput time row row.1.progress
    ∙ (λ i. line_from defensive width most midpoint throughput time (heads defensive row other h i) (h.progress i))
    ∙ sym (by_head defensive width most midpoint throughput time other other.1.progress)

pub alike_line : (options : Options) (midpoint : ℕ) (throughput : Option Throughput) (row other : PathRow) → AreAlike row other
    → untimed_line options midpoint (row, throughput) ≡ untimed_line options midpoint (other, throughput)
alike_line options midpoint throughput row other h =
    ap (as_drawn options) (alike_row_line options.defensive options.terminal_dimensions.0 options.bar_columns midpoint throughput None row other h)

abbrev midpoint_from : Bool → Option Throughput → Line → Option RowProgress → ℕ
midpoint_from defensive throughput head None = 0
midpoint_from defensive throughput head (Some p) = columns_of (head ++ (spaces 1 ∷ values_of defensive p throughput))

midpoint_by_head : (defensive : Bool) (throughput : Option Throughput) (row : PathRow) (progress : Option RowProgress)
    → midpoint_with defensive row progress throughput ≡ midpoint_from defensive throughput (head_of defensive row) progress
midpoint_by_head defensive throughput row None = refl
midpoint_by_head defensive throughput row (Some p) = refl

pub alike_midpoint : (defensive : Bool) (throughput : Option Throughput) (row other : PathRow) → AreAlike row other
    → midpoint_of defensive (row, throughput) ≡ midpoint_of defensive (other, throughput)
alike_midpoint defensive throughput row other h =
    midpoint_by_head defensive throughput row row.1.progress
    ∙ (λ i. midpoint_from defensive throughput (heads defensive row other h i) (h.progress i))
    ∙ sym (midpoint_by_head defensive throughput other other.1.progress)

-- a size of one line is that of the same line
pub same_size : (options : Options) (midpoint : ℕ) (drawn other : DrawnRow) (size : LineSize) → untimed_line options midpoint drawn ≡ untimed_line options midpoint other
    → midpoint_of options.defensive drawn ≡ midpoint_of options.defensive other → IsSizeOf options midpoint drawn size → IsSizeOf options midpoint other size
same_size options midpoint drawn other size line own s = record {
  bytes = s.bytes ∙ ap (λ (l : Line). length (own_bytes options l)) line;
  width = s.width ∙ ap columns_of line;
  midpoint = s.midpoint ∙ own;
}

-- ---- bytes

at_more : (start : ℕ) (part whole more : List ℕ) → IsAt start part whole → IsAt start part (whole ++ more)
at_more start part whole more a = record {
  before = a.before;
  after = a.after ++ more;
  joined = ap (λ (t : List ℕ). t ++ more) a.joined ∙ append_assoc a.before (part ++ a.after) more ∙ ap (λ (t : List ℕ). a.before ++ t) (append_assoc part a.after more);
  begins = a.begins;
}

-- lines stay where they are if bytes are appended
pub among_more : (options : Options) (midpoint : ℕ) (rows : List PathRow) (bytes more new : List ℕ) (lines : List RowLine) → new ≡ bytes ++ more
    → AreAmong options midpoint rows bytes lines → AreAmong options midpoint rows new lines
among_more options midpoint rows bytes more new lines e a =
    All-weaker (IsAmong options midpoint rows bytes) (IsAmong options midpoint rows new)
    (λ line h. record { row = h.row; found = h.found; size = h.size; place = subst (IsAt line.start (own_bytes options (untimed_line options midpoint (h.row, None)))) (sym e) (at_more line.start _ bytes more h.place) })
    lines a

slice_get_more : {X : Type 0} (xs ys : List X) (i : ℕ) (x : X) → slice_get xs i ≡ Some x → slice_get (xs ++ ys) i ≡ Some x
slice_get_more [] ys i x h = cc
slice_get_more (y ∷ xs) ys zero x h = h
slice_get_more (y ∷ xs) ys (suc i) x h = slice_get_more xs ys i x h

-- lines of the first rows are lines of all
pub among_first : (options : Options) (midpoint : ℕ) (rows shown others : List Row) (bytes : List ℕ) (lines : List RowLine) → rows ≡ shown ++ others
    → AreAmong options midpoint (rows_of shown) bytes lines → AreAmong options midpoint (rows_of rows) bytes lines
among_first options midpoint rows shown others bytes lines e a =
    All-weaker (IsAmong options midpoint (rows_of shown) bytes) (IsAmong options midpoint (rows_of rows) bytes)
    (λ line h. record {
      row = h.row;
      found = ap (λ (rs : List PathRow). slice_get rs line.row) (ap rows_of e ∙ map-append row_of shown others) ∙ slice_get_more (rows_of shown) (rows_of others) line.row h.row h.found;
      size = h.size;
      place = h.place;
    }) lines a

-- the line that has just been written
pub among_last : (options : Options) (midpoint : ℕ) (rows : List Row) (before new rest : List ℕ) (row : Row) (at : ℕ) (size : LineSize)
    → slice_get rows at ≡ Some row → IsSizeOf options midpoint (row_of row, None) size
    → new ≡ before ++ (own_bytes options (untimed_line options midpoint (row_of row, None)) ++ rest)
    → IsAmong options midpoint (rows_of rows) new (kept_line at (length before) size)
among_last options midpoint rows before new rest row at size f s e = record {
  row = row_of row;
  found = slice_get-map row_of rows at ∙ ap (option_map row_of) f;
  size = s;
  place = record { before = before; after = rest; joined = e; begins = refl };
}

-- how long what was written of a line is
pub own_length : (options : Options) (line : Line) (before new : List ℕ) → new ≡ (before ++ spelling (row_start (layout_of options))) ++ line_bytes line
    → length new ≡ length before + length (own_bytes options line)
own_length options line before new e =
    let start = spelling (row_start (layout_of options)) in
    ap length (e ∙ append_assoc before start (line_bytes line)) ∙ length-append before (own_bytes options line)

-- the whole of it, with what follows it
pub own_written : (options : Options) (line : Line) (before rest new : List ℕ) → new ≡ (before ++ spelling (row_start (layout_of options))) ++ (line_bytes line ++ rest)
    → new ≡ before ++ (own_bytes options line ++ rest)
own_written options line before rest new e =
    let start = spelling (row_start (layout_of options)) in
    e ∙ append_assoc before start (line_bytes line ++ rest) ∙ ap (λ (t : List ℕ). before ++ t) (sym (append_assoc start (line_bytes line) rest))

-- and before others
pub own_joined : (start own end rest before new : List ℕ) → new ≡ before ++ ((start ++ own) ++ end) → new ++ rest ≡ before ++ (start ++ ((own ++ end) ++ rest))
own_joined start own end rest before new e =
    ap (λ (t : List ℕ). t ++ rest) e ∙ append_assoc before ((start ++ own) ++ end) rest
    ∙ ap (λ (t : List ℕ). before ++ t) (append_assoc (start ++ own) end rest ∙ append_assoc start own (end ++ rest)
    ∙ ap (λ (t : List ℕ). start ++ t) (sym (append_assoc own end rest)))

-- the rows from one on
pub dropped_from : (rows : List Row) (i : ℕ) (row : Row) → i < length rows → row ≡ get_or rows i row → drop i rows ≡ row ∷ drop (i + 1) rows
dropped_from rows i row l e =
    drop-cons rows i row l ∙ ap (λ (x : Row). x ∷ drop (suc i) rows) (sym e) ∙ ap (λ (k : ℕ). row ∷ drop k rows) (let next : suc i ≡ i + 1 = omega arith in next)

-- those that are drawn, if that is
pub filtered_from : (levels : Option (ℕ × ℕ)) (rows : List Row) (i : ℕ) (row : Row) → i < length rows → row ≡ get_or rows i row → is_row_drawn levels (row_of row) ≡ true
    → filtered levels (rows_of (drop i rows)) ≡ row_of row ∷ filtered levels (rows_of (drop (i + 1) rows))
filtered_from levels rows i row l e drawn =
    let rest = filtered levels (rows_of (drop (i + 1) rows)) in
    ap (λ (rs : List Row). filtered levels (rows_of rs)) (dropped_from rows i row l e) ∙ ap (λ (b : Bool). cond b (row_of row ∷ rest) rest) drawn

-- ---- a line that is found

the_row : PathRow → Option PathRow → PathRow
the_row default None = default
the_row default (Some row) = row

same_some : (row other : PathRow) → Some row ≡ Some other → row ≡ other
unfolding the_row
same_some row other h = ap (the_row row) h

pub at_place : (start n : ℕ) (part whole : List ℕ) → IsAt start part whole → n ≡ length part → take n (drop start whole) ≡ part
at_place start n part whole a e =
    ap (λ (t : List ℕ). take n (drop start t)) a.joined ∙ ap (take n) (drop_at a.before (part ++ a.after) start a.begins) ∙ take_at part a.after n (sym e)

-- an earlier line is that of a row that is alike
pub placed_also : (options : Options) (midpoint : ℕ) (rows : List PathRow) (bytes : List ℕ) (line : RowLine) (row earlier : PathRow) → IsAmong options midpoint rows bytes line
    → slice_get rows line.row ≡ Some earlier → AreAlike row earlier → IsPlaced options midpoint row bytes line.start (line_size line)
placed_also options midpoint rows bytes line row earlier a f alike =
    let same : a.row ≡ earlier = same_some a.row earlier (sym a.found ∙ f) in
    let drawn : untimed_line options midpoint (a.row, None) ≡ untimed_line options midpoint (row, None) =
    ap (λ (r : PathRow). untimed_line options midpoint (r, None)) same ∙ sym (alike_line options midpoint None row earlier alike) in
    let own : midpoint_of options.defensive (a.row, None) ≡ midpoint_of options.defensive (row, None) =
    ap (λ (r : PathRow). midpoint_of options.defensive (r, None)) same ∙ sym (alike_midpoint options.defensive None row earlier alike) in
    record {
      size = same_size options midpoint (a.row, None) (row, None) (line_size line) drawn own a.size;
      place = subst (λ (l : Line). IsAt line.start (own_bytes options l) bytes) drawn a.place;
    }

-- ---- lines that stand one behind the other

at_first : (part after : List ℕ) (x : ℕ) → slice_get (part ++ after) (length part) ≡ Some x → after ≡ x ∷ drop 1 after
at_first [] [] x h = cc
at_first [] (y ∷ after) x h = cc
at_first (z ∷ part) after x h = at_first part after x h

-- what is among bytes, with the byte behind it
with_next : (start end x : ℕ) (part whole : List ℕ) → IsAt start part whole → end ≡ start + length part → slice_get whole end ≡ Some x → IsAt start (part ++ x ∷ []) whole
with_next start end x part whole a e h =
    let joined : whole ≡ (a.before ++ part) ++ a.after = a.joined ∙ sym (append_assoc a.before part a.after) in
    let ends : end ≡ length (a.before ++ part) = e ∙ ap (λ (n : ℕ). n + length part) (sym a.begins) ∙ sym (length-append a.before part) in
    let next : a.after ≡ x ∷ drop 1 a.after = at_first (a.before ++ part) a.after x
    (sym (ap (slice_get ((a.before ++ part) ++ a.after)) ends) ∙ sym (ap (λ (t : List ℕ). slice_get t end) joined) ∙ h) in
    record {
      before = a.before;
      after = drop 1 a.after;
      joined = a.joined ∙ ap (λ (t : List ℕ). a.before ++ (part ++ t)) next ∙ ap (λ (t : List ℕ). a.before ++ t) (sym (append_assoc part (x ∷ []) (drop 1 a.after)));
      begins = a.begins;
    }

-- a line at least as wide as the one on screen, and a line feed behind it
pub written_over : (options : Options) (midpoint : ℕ) (row : PathRow) (old_width : ℕ) (bytes : List ℕ) (start end : ℕ) (size : LineSize) → IsPlaced options midpoint row bytes start size
    → end ≡ start + size.length → slice_get bytes end ≡ Some 10 → old_width ≤ size.width → IsWritten options midpoint row old_width bytes start size
written_over options midpoint row old_width bytes start end size p e h w =
    let drawn = untimed_line options midpoint (row, None) in
    let nothing : 0 ≡ old_width - columns_of drawn = let width = p.size.width in omega (arith, width) in
    let own = own_bytes options drawn in
    let ended : size.length + 1 ≡ length (own ++ row_end 0) = ap (λ (n : ℕ). n + 1) p.size.bytes ∙ sym (length-append own (10 ∷ [])) in
    record {
      own = p.size;
      long = subst (λ (n : ℕ). size.length + 1 ≡ length (own ++ row_end n)) nothing ended;
      place = subst (λ (n : ℕ). IsAt start (own_bytes options drawn ++ row_end n) bytes) nothing
          (with_next start end 10 (own_bytes options drawn) bytes p.place (e ∙ ap (λ (n : ℕ). start + n) p.size.bytes) h);
    }

-- the bytes from the beginning of a run up to its end
abbrev pub run_bytes : List ℕ → ℕ → ℕ → List ℕ
run_bytes bytes start end = take (end - start) (drop start bytes)

-- what stands at its end belongs to a longer run
pub run_more : (bytes part : List ℕ) (start end next : ℕ) → start ≤ end → IsAt end part bytes → next ≡ end + length part
    → run_bytes bytes start next ≡ run_bytes bytes start end ++ part
run_more bytes part start end next l a n =
    let first = drop start a.before in
    let begins = a.begins in
    let long : length first ≡ end - start = length-drop start a.before ∙ ap (λ (k : ℕ). k - start) begins in
    let dropped : drop start bytes ≡ first ++ (part ++ a.after) = ap (drop start) a.joined ∙ drop-append-le start a.before (part ++ a.after) (let le : start ≤ length a.before = omega arith in le) in
    let whole : length (first ++ part) ≡ next - start = length-append first part ∙ (let sum : length first + length part ≡ next - start = omega (arith, long, n) in sum) in
    ap (take (next - start)) (dropped ∙ sym (append_assoc first part a.after)) ∙ take_at (first ++ part) a.after (next - start) whole
    ∙ sym (ap (λ (t : List ℕ). t ++ part) (ap (take (end - start)) dropped ∙ take_at first (part ++ a.after) (end - start) long))

-- nothing belongs to a run that has just begun
pub run_nothing : (bytes : List ℕ) (start : ℕ) → run_bytes bytes start start ≡ []
run_nothing bytes start = ap (λ (n : ℕ). take n (drop start bytes)) (let zero : start - start ≡ 0 = omega arith in zero)

-- how long it is
pub length-run : (bytes : List ℕ) (start end : ℕ) → start ≤ end → end ≤ length bytes → length (run_bytes bytes start end) ≡ end - start
length-run bytes start end l e = length-take-le (end - start) (drop start bytes) (let d = length-drop start bytes in let le : end - start ≤ length (drop start bytes) = omega (arith, d) in le)

-- ---- rows that stay

-- a tick that would draw other rows, and draws none, saw those that are remembered
leaves_by : (closes drawn : Bool) (idle : Action) → Leave ≡ cond closes Close (cond drawn Redraw idle) → drawn ≡ false
leaves_by true drawn idle h = cc
leaves_by false true idle h = cc
leaves_by false false idle h = refl

drawn_by : (show terminal rest : Bool) → (show && (terminal && rest)) ≡ false → show ≡ true → terminal ≡ true → rest ≡ false
drawn_by true true rest h s t = h
drawn_by true false rest h s t = cc
drawn_by false terminal rest h s t = cc

changed_by : (again times changed : Bool) → (again || (times || changed)) ≡ false → changed ≡ false
changed_by true times changed h = cc
changed_by false true changed h = cc
changed_by false false changed h = h

same_by : (same : Bool) → not same ≡ false → same ≡ true
same_by true h = refl
same_by false h = cc

unchanged : (last : Option (List PathRow)) (rows : List PathRow) → rows_changed last rows ≡ false → last ≡ Some rows
unchanged None rows h = cc
unchanged (Some before) rows h = ap Some (sound same.rows before rows (same_by (same_rows before rows) h))

pub sees_same : (r : Renderer) (show printed : Bool) (rows : List PathRow) → Leave ≡ tick_action r show printed rows → show ≡ true → r.options.output_is_terminal ≡ true
    → r.last_rows ≡ Some rows
sees_same r show printed rows left shown terminal =
    let drawn = leaves_by (closes_at r rows) (is_drawn r show printed rows) (idle_action r printed) left in
    let again = draws_again r printed in
    let times = times_go_on r.options rows in
    let changed = rows_changed r.last_rows rows in
    unchanged r.last_rows rows (changed_by again times changed (drawn_by show r.options.output_is_terminal (again || (times || changed)) drawn shown terminal))
