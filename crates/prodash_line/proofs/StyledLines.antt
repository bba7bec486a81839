-- The styles of the lines of rows and messages: each has a code.
use Rattle.std.proofs.Common.{ℕ, Bool, true, false, cond, nat_eq, nat_le, nat_lt, ◌==◌, ◌-◌, List, [], ◌∷◌, ◌++◌, Option, Some, None}
use Rattle.std.specs.Prelude.{⊤, ◌||◌, ◌≢◌}
use Rattle.std.specs.List.{AllByRecursion}
use Rattle.prodash_base.specs.Rows.{Phase, Running, Halted, Blocked, PathRow, RowProgress}
use Rattle.prodash_base.specs.Units.{Measure}
use Rattle.prodash_base.specs.declared.messages.Message.{Message}
use Rattle.prodash_base.specs.declared.unit.display.Throughput.{Throughput}
use Rattle.prodash_base.specs.declared.timing.task_time.TaskTime.{TaskTime}
use Rattle.prodash_line.specs.declared.render.line.draw.input.Options.{Options}
use Rattle.prodash_line.specs.declared.render.line.page.style.Style.{Style}
use Rattle.prodash_line.specs.Styles.{style_codes}
use Rattle.prodash_line.specs.TextStyles.{dimmed, name_style, style_in, row_style}
use Rattle.prodash_line.specs.Lines.{Piece, Line, styled, spaces, shown_style, in_color, width_of, columns_of, longest_prefix, cut_to, cut}
use Rattle.prodash_line.specs.DrawnLines.{limit_of, message_limit_of, as_drawn}
use Rattle.prodash_line.specs.ProgressRows.{DrawnRow, Times, time_line, with_time, values_by, bounded_bar, unbounded_bar, bar, bar_columns, padded, row_line_with, row_lines, more_line, more_lines}
use Rattle.prodash_line.specs.MessageLines.{time_of, bare_text_of, text_of, is_bare, message_line, drawn_message_line, message_lines, origin_width, greatest_width}
use Rattle.prodash_line.proofs.Lists.{AllByRecursion-append}

abbrev pub HasCode : Option Style → Type 0
HasCode None = ⊤
HasCode (Some style) = style_codes style ≢ []

-- each style in a line has a code
abbrev pub HasCodes : Line → Type 0
HasCodes line = AllByRecursion (λ p. HasCode p.style) line

abbrev pub HaveCodes : List Line → Type 0
HaveCodes lines = AllByRecursion HasCodes lines

some_code : (code : ℕ) (codes : List ℕ) → code ∷ codes ≢ []
some_code code codes e = cc

-- with colour and without
shown : (colored : Bool) (style : Option Style) → HasCode style → HasCode (shown_style colored style)
shown colored None h = tt
shown true (Some style) h = h
shown false (Some style) h = tt

in_color_has : (colored : Bool) (line : Line) → HasCodes line → HasCodes (in_color colored line)
in_color_has colored [] h = tt
in_color_has colored (p ∷ ps) h = (shown colored p.style h.0, in_color_has colored ps h.1)

-- a line that is cut has no other styles
kept_or_cut : (b : Bool) (p : Piece) (text : List ℕ) (line : Line) → HasCode p.style → HasCodes line → HasCodes (cond b (p ∷ line) (styled p.style text ∷ []))
kept_or_cut true p text line h hs = (h, hs)
kept_or_cut false p text line h hs = (h, tt)

cut_to_has : (columns : ℕ) (line : Line) → HasCodes line → HasCodes (cut_to columns line)
cut_to_has columns [] h = tt
cut_to_has columns (p ∷ ps) h =
    kept_or_cut (nat_le (width_of p) columns) p (longest_prefix columns p.text) (cut_to (columns - width_of p) ps) h.0 (cut_to_has (columns - width_of p) ps h.1)

cut_has : (limit : Option ℕ) (line : Line) → HasCodes line → HasCodes (cut limit line)
cut_has None line h = h
cut_has (Some columns) line h = cut_to_has columns line h

drawn_has : (options : Options) (line : Line) → HasCodes line → HasCodes (as_drawn options line)
drawn_has options line h = cut_has (limit_of options) (in_color options.colored line) (in_color_has options.colored line h)

one_or_other : (b : Bool) (xs ys : Line) → HasCodes xs → HasCodes ys → HasCodes (cond b xs ys)
one_or_other true xs ys h i = h
one_or_other false xs ys h i = i

-- ---- rows

style_in_has : (phase : Phase) (step : ℕ) (bound : Option ℕ) → HasCode (Some (style_in phase step bound)) × HasCode (Some (dimmed (style_in phase step bound)))
style_in_has Running step bound = (some_code _ _, some_code _ _)
style_in_has (Halted reason eta) step bound = (some_code _ _, some_code _ _)
style_in_has (Blocked reason eta) step bound = (some_code _ _, some_code _ _)

name_has : (progress : Option RowProgress) → HasCode (Some (name_style progress))
name_has None = some_code _ _
name_has (Some p) = some_code _ _

values_has : (defensive : Bool) (unit : Option Measure) (p : RowProgress) (t : Option Throughput) → HasCodes (values_by defensive unit p t)
values_has defensive None p t = (some_code _ _, tt)
values_has defensive (Some unit) p t = (some_code _ _, (tt, (tt, tt)))

bar_has : (style : Style) (columns step : ℕ) (bound : Option ℕ) → HasCode (Some style) → HasCode (Some (dimmed style)) → HasCodes (bar style columns step bound)
bar_has style columns step None h d = one_or_other (columns == 0) [] (unbounded_bar style columns step) tt (tt, (h, (tt, tt)))
bar_has style columns step (Some bound) h d = one_or_other (columns == 0) [] (bounded_bar style columns step bound) tt (tt, (h, (h, (d, (tt, tt)))))

timed_has : (defensive : Bool) (width : ℕ) (values : Line) (time : Option TaskTime) → HasCodes values → HasCodes (with_time defensive width values time)
timed_has defensive width values None h = h
timed_has defensive width values (Some t) h = AllByRecursion-append (λ q. HasCode q.style) values (time_line defensive (width - columns_of values) t) h (tt, tt)

row_has : (defensive : Bool) (width : ℕ) (most : Option ℕ) (midpoint : ℕ) (row : PathRow) (progress : Option RowProgress) (t : Option Throughput) (time : Option TaskTime) → HasCodes (row_line_with defensive width most midpoint row progress t time)
row_has defensive width most midpoint row None t time = (tt, (name_has row.1.progress, tt))
row_has defensive width most midpoint row (Some p) t time =
    let values = with_time defensive width (padded defensive midpoint row p t) time in
    let styles = style_in_has p.phase p.counter p.bound in
    AllByRecursion-append (λ q. HasCode q.style) values (bar (row_style p) (bar_columns most (width - columns_of values)) p.counter p.bound)
    (timed_has defensive width (padded defensive midpoint row p t) time (tt, (name_has row.1.progress, (tt, (tt, values_has defensive p.unit p t)))))
    (bar_has (row_style p) (bar_columns most (width - columns_of values)) p.counter p.bound styles.0 styles.1)

pub rows_have : (options : Options) (midpoint : ℕ) (times : Times) (rows : List DrawnRow) → HaveCodes (row_lines options midpoint times rows)
rows_have options midpoint times [] = tt
rows_have options midpoint times (row ∷ rows) =
    (drawn_has options _ (row_has options.defensive options.terminal_dimensions.0 options.bar_columns midpoint row.0 row.0.1.progress row.1 (times row.0)), rows_have options midpoint times rows)

-- the line that counts the other rows, if it is drawn
none_or_one : (b : Bool) (line : Line) → HasCodes line → HaveCodes (cond b [] (line ∷ []))
none_or_one true line h = tt
none_or_one false line h = (h, tt)

pub more_have : (options : Options) (n : ℕ) → HaveCodes (more_lines options n)
more_have options n =
    none_or_one (nat_eq n 0 || nat_lt options.terminal_dimensions.1 2) (as_drawn options (more_line options.ascii n)) (drawn_has options (more_line options.ascii n) (tt, (tt, (tt, tt))))

-- ---- messages

time_has : (timestamp : Bool) (m : Message) → HasCodes (time_of timestamp m)
time_has true m = (some_code _ _, (tt, tt))
time_has false m = tt

bare_text_has : (defensive : Bool) (m : Message) → HasCodes (bare_text_of defensive m)
bare_text_has defensive m = (some_code _ _, tt)

text_has : (defensive : Bool) (width : ℕ) (m : Message) → HasCodes (text_of defensive width m)
text_has defensive width m = (some_code _ _, (tt, bare_text_has defensive m))

one_of_lines : (b : Bool) (xs ys : Line) → HasCodes xs → HasCodes ys → HasCodes (cond b xs ys)
one_of_lines true xs ys h i = h
one_of_lines false xs ys h i = i

message_line_has : (options : Options) (width : ℕ) (m : Message) → HasCodes (message_line options width m)
message_line_has options width m =
    let time = time_of options.timestamp m in
    let bare_text = bare_text_of options.defensive m in
    let text = text_of options.defensive width m in
    one_of_lines (is_bare options m) (time ++ bare_text) (spaces 1 ∷ time ++ text)
    (AllByRecursion-append (λ q. HasCode q.style) time bare_text (time_has options.timestamp m) (bare_text_has options.defensive m))
    (tt, AllByRecursion-append (λ q. HasCode q.style) time text (time_has options.timestamp m) (text_has options.defensive width m))

message_has : (options : Options) (width : ℕ) (m : Message) → HasCodes (drawn_message_line options width m)
message_has options width m =
    let line = message_line options width m in
    cut_has (message_limit_of options) (in_color options.colored line)
    (in_color_has options.colored line (message_line_has options width m))

pub messages_have : (options : Options) (widths : List ℕ) (messages : List Message) → HaveCodes (message_lines options widths messages)
messages_have options widths [] = tt
messages_have options widths (m ∷ messages) =
    let all = widths ++ origin_width options.defensive m.origin ∷ [] in
    (message_has options (greatest_width all) m, messages_have options all messages)
