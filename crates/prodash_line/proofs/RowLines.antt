-- The line of a row, from what was appended to it.
use Rattle.std.proofs.Common.{◌≡◌, ℕ, zero, suc, ◌+◌, ◌-◌, Bool, false, true, List, [], ◌∷◌, ◌++◌, Option, Some, None, length, take, replicate, append_assoc, ap, sym, subst, ◌∙◌, arith, length-append}
use Rattle.unicode_width.specs.Width.{str_width}
use Rattle.prodash_base.specs.Rows.{PathRow, RowProgress}
use Rattle.prodash_base.specs.declared.unit.display.Throughput.{Throughput}
use Rattle.prodash_base.specs.declared.timing.task_time.TaskTime.{TaskTime}
use Rattle.prodash_line.specs.declared.render.line.draw.line_writer.LineWriter.{LineWriter}
use Rattle.prodash_line.specs.declared.render.line.page.style.Style.{Style}
use Rattle.prodash_line.specs.Lines.{Line, piece, spaces, capped, columns_of, in_color}
use Rattle.prodash_line.specs.TextStyles.{row_style}
use Rattle.prodash_line.specs.ProgressRows.{time_line, with_time, values_of, head_of, padded, bar, bar_columns, midpoint_with, row_line_with}
use Rattle.prodash_line.specs.plumbing.RowWriting.{after_padding, end_of_values, padded_values, AppendsTime}
use Rattle.prodash_line.specs.plumbing.Writing.{is_printable, Appends, Begun}
use Rattle.prodash_line.proofs.Columns.{columns_of-append, width-printable, width-repeated}
use Rattle.prodash_line.proofs.Coloring.{in_color-append, columns_of-in_color}
use Rattle.prodash_line.proofs.LineWriting.{appends_as, appends_then, begun_then, begun_as}

-- ---- a text in three parts

pub length-parts : (text first second third : List ℕ) → text ≡ first ++ (second ++ third) → length text ≡ length first + length second + length third
length-parts text first second third e = omega (arith, ap length e, length-append first (second ++ third), length-append second third)

pub take-parts : (k : ℕ) (xs ys : List ℕ) → take k (xs ++ ys) ≡ take k xs ++ take (k - length xs) ys
take-parts zero xs ys = ap (λ n. take n ys) (let e : 0 ≡ 0 - length xs = omega arith in e)
take-parts (suc k) [] ys = ap (λ n. take n ys) (let e : suc k ≡ suc k - 0 = omega arith in e)
take-parts (suc k) (x ∷ xs) ys = ap (λ t. x ∷ t) (take-parts k xs ys) ∙ ap (λ n. x ∷ (take k xs ++ take n ys)) (let e : k - length xs ≡ suc k - length (x ∷ xs) = omega arith in e)

-- its first characters, part by part
pub parts_written : (a b c d text first second third : List ℕ) (n m k : ℕ) → text ≡ first ++ (second ++ third)
    → b ≡ a ++ take n first → m ≡ n - length first → c ≡ b ++ take m second → k ≡ m - length second → d ≡ c ++ take k third → d ≡ a ++ take n text
parts_written a b c d text first second third n m k e eb em ec ek ed =
    let mine = take n first in
    let next = take m second in
    ed ∙ ap (λ t. t ++ take k third) (ec ∙ ap (λ t. t ++ next) eb) ∙ append_assoc (a ++ mine) next (take k third) ∙ append_assoc a mine (next ++ take k third)
    ∙ ap (λ j. a ++ (mine ++ (next ++ take j third))) ek
    ∙ ap (λ t. a ++ (mine ++ t)) (sym (take-parts m second third))
    ∙ ap (λ j. a ++ (mine ++ take j (second ++ third))) em
    ∙ ap (λ t. a ++ t) (sym (take-parts n first (second ++ third)) ∙ ap (take n) (sym e))

-- where printable characters end
pub text_end : (text : List ℕ) (before width own : ℕ) → is_printable text ≡ true → width ≡ length text → own ≡ capped (capped (before + 1) + width) → own ≡ end_of_values before (piece text ∷ [])
text_end text before width own h e o =
    let one : str_width false (replicate 1 32) ≡ 1 = width-repeated 1 32 (omega arith) (omega arith) in
    let columns : str_width false text ≡ length text = width-printable text h in
    omega arith

-- where values and a unit end
pub unit_end : (values unit : List ℕ) (before first second own : ℕ) → first ≡ columns_of (piece values ∷ []) → second ≡ columns_of (piece unit ∷ [])
    → own ≡ capped (capped (capped (capped (before + 1) + first) + 1) + second) → own ≡ end_of_values before (piece values ∷ spaces 1 ∷ piece unit ∷ [])
unit_end values unit before first second own f s o =
    let one : str_width false (replicate 1 32) ≡ 1 = width-repeated 1 32 (omega arith) (omega arith) in
    omega arith

-- values behind padding that brings their end to a midpoint
pub padded_to : {a c : LineWriter} (colored : Bool) (midpoint own pad : ℕ) (values : Line) → own ≡ end_of_values a.width values → pad ≡ midpoint - own
    → Appends a (after_padding pad (in_color colored values)) c → Appends a (in_color colored (padded_values midpoint a.width values)) c
padded_to colored midpoint own pad values o p h = appends_as (ap (λ n. after_padding n (in_color colored values)) (p ∙ ap (λ n. midpoint - n) o)) h

-- a space, padding and values
pub padded_appends : {a b c : LineWriter} (colored : Bool) (midpoint own pad : ℕ) (values : Line) → own ≡ end_of_values a.width values → pad ≡ midpoint - own
    → Appends a (spaces 1 ∷ spaces pad ∷ []) b → Appends b (in_color colored values) c → Appends a (in_color colored (padded_values midpoint a.width values)) c
padded_appends colored midpoint own pad values o p gap shown = padded_to colored midpoint own pad values o p (appends_then gap shown)

-- the midpoint of a row, from where its values end behind its head
pub row_midpoint : {limit : Option ℕ} {old w : LineWriter} (colored defensive : Bool) (row : PathRow) (p : RowProgress) (t : Option Throughput) → Begun limit old (in_color colored (head_of defensive row)) w
    → end_of_values w.width (values_of defensive p t) ≡ midpoint_with defensive row (Some p) t
row_midpoint colored defensive row p t h =
    ap (λ n. end_of_values n (values_of defensive p t)) h.writes.width ∙ sym (columns_of-append (head_of defensive row) (spaces 1 ∷ values_of defensive p t))

-- the line up to the values
pub padded_begun : {limit : Option ℕ} {old w1 w2 : LineWriter} (colored defensive : Bool) (row : PathRow) (p : RowProgress) (t : Option Throughput) (midpoint : ℕ) → Begun limit old (in_color colored (head_of defensive row)) w1
    → Appends w1 (in_color colored (padded_values midpoint w1.width (values_of defensive p t))) w2 → Begun limit old (in_color colored (padded defensive midpoint row p t)) w2
padded_begun colored defensive row p t midpoint h values =
    begun_as (ap (λ n. in_color colored (head_of defensive row ++ (spaces 1 ∷ spaces (midpoint - n) ∷ values_of defensive p t))) (row_midpoint colored defensive row p t h)) (begun_then h values)

-- with the time
pub timed_begun : {limit : Option ℕ} {old w1 w2 : LineWriter} (colored defensive : Bool) (width : ℕ) (values : Line) (time : Option TaskTime) → Begun limit old (in_color colored values) w1
    → AppendsTime colored defensive width time w1 w2 → Begun limit old (in_color colored (with_time defensive width values time)) w2
timed_begun {limit} {old} colored defensive width values None h s = subst (Begun limit old (in_color colored values)) (sym s) h
timed_begun colored defensive width values (Some t) h s =
    let columns = ap (λ n. width - n) (h.writes.width ∙ columns_of-in_color colored values) in
    begun_as (sym (in_color-append colored values (time_line defensive (width - columns_of values) t)))
    (begun_then h (appends_as (ap (λ n. in_color colored (time_line defensive n t)) columns) s))

-- with the bar
pub row_begun : {limit : Option ℕ} {old w1 w2 : LineWriter} (colored defensive : Bool) (row : PathRow) (p : RowProgress) (t : Option Throughput) (time : Option TaskTime) (width : ℕ) (most : Option ℕ) (midpoint left : ℕ) (style : Style)
    → Begun limit old (in_color colored (with_time defensive width (padded defensive midpoint row p t) time)) w1 → left ≡ bar_columns most (width - w1.width) → style ≡ row_style p
    → Appends w1 (in_color colored (bar style left p.counter p.bound)) w2 → Begun limit old (in_color colored (row_line_with defensive width most midpoint row (Some p) t time)) w2
row_begun colored defensive row p t time width most midpoint left style h l s b =
    let values = with_time defensive width (padded defensive midpoint row p t) time in
    let columns = l ∙ ap (λ n. bar_columns most (width - n)) (h.writes.width ∙ columns_of-in_color colored values) in
    begun_as (sym (in_color-append colored values (bar (row_style p) (bar_columns most (width - columns_of values)) p.counter p.bound)))
    (begun_then h (appends_as (ap (λ x. in_color colored (bar x left p.counter p.bound)) s ∙ ap (λ n. in_color colored (bar (row_style p) n p.counter p.bound)) columns) b))
