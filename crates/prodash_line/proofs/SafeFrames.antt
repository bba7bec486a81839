-- The lines that a defensive renderer draws: none has an unsafe character.
use Rattle.std.proofs.Common.{◌≡◌, ℕ, Result, Ok, Err, zero, suc, ◌-◌, ◌/◌, ◌%◌, ◌<◌, Bool, true, false, cond, ◌==◌, nat_eq, nat_lt, nat_le, List, [], ◌∷◌, ◌++◌, length, chars, map, take, replicate, refl, sym, subst, ◌∙◌, Option, Some, None, arith}
use Rattle.std.specs.Prelude.{◌||◌, codes}
use Rattle.std.specs.List.{AllByRecursion}
use Rattle.prodash_line.specs.UnsafeCharacters.{is_unsafe}
use Rattle.std.specs.Int.{is_in_range}
use Rattle.std.specs.Fmt.{decimal, digits, digits_onto, digit_glyph}
use Rattle.std.proofs.lemmas.Bool.Decides.{nat_tests}
use Rattle.std.proofs.lemmas.Bool.{and_parts}
use Rattle.prodash_base.specs.Moments.{seconds_of, time_text}
use Rattle.prodash_base.specs.Numerals.{last_digits}
use Rattle.prodash_base.specs.Rows.{PathRow, RowProgress}
use Rattle.prodash_base.specs.Units.{Measure}
use Rattle.prodash_base.specs.declared.messages.Message.{Message}
use Rattle.prodash_base.specs.declared.refusal.Refusal.{Refusal}
use Rattle.prodash_base.specs.declared.unit.display.Throughput.{Throughput}
use Rattle.prodash_base.specs.declared.timing.task_time.TaskTime.{TaskTime}
use Rattle.prodash_line.specs.declared.render.line.draw.input.Options.{Options}
use Rattle.prodash_line.specs.declared.render.line.draw.input.Answer.{Answer}
use Rattle.prodash_line.specs.declared.render.line.draw.input.Input.{Input}
use Rattle.prodash_line.specs.declared.render.line.draw.input.Input.TheVariants.{Tick, Resize, Quit}
use Rattle.prodash_line.specs.declared.render.line.draw.action.Action.{Action}
use Rattle.prodash_line.specs.declared.render.line.draw.action.Action.TheVariants.{Leave, Redraw, Erase, Close}
use Rattle.prodash_line.specs.declared.render.line.page.sign.Sign.{Sign}
use Rattle.prodash_line.specs.declared.render.line.page.style.Style.{Style}
use Rattle.prodash_line.specs.Lines.{Piece, Line, styled, spaces, in_color, width_of, columns_of, longest_prefix_of, longest_prefix, cut_to, cut}
use Rattle.prodash_line.specs.DrawnLines.{safe_char, drawn_chars, limit_of, message_limit_of, as_drawn}
use Rattle.prodash_line.specs.ProgressRows.{DrawnRow, Times, times_at, time_line, with_time, fraction_of, values_by, numbered_cell, bounded_bar, unbounded_bar, bar, bar_columns, padded, row_line_with, row_lines, ellipsis, more_line, more_lines}
use Rattle.prodash_line.specs.TextStyles.{row_style}
use Rattle.prodash_line.specs.MessageLines.{time_of, bare_text_of, text_of, is_bare, message_line, message_lines, origin_width, greatest_width}
use Rattle.prodash_line.specs.Frames.{body_lines}
use Rattle.prodash_line.specs.SafeFrames.{IsSafe, HasSafeLines, DrawsSafely, DrawsSafelyOf}
use Rattle.prodash_line.specs.Renderer.{Renderer, Drawing, drawn_rows, fitting_rows, drawn_lines, latest_rows, remember, moment_of, drawing_at, action_at, printed_at, ending_of, body_of, Renders, frame_at}
use Rattle.prodash_line.specs.Renderings.{Rendering, RendersEach, renderer_after}
use Rattle.prodash_line.specs.plumbing.RenderedInputs.{RendersAll}
use Rattle.prodash_line.specs.Screens.{ScreenState}
use Rattle.prodash_line.specs.plumbing.Writing.{is_printable}
use Rattle.prodash_line.proofs.Columns.{printable-append, printable-last_digits, chars-printable}
use Rattle.prodash_line.proofs.Lists.{AllByRecursion-append, AllByRecursion-replicate, AllByRecursion-take}
use Rattle.prodash_line.proofs.Renderings.{each}

-- ---- texts

-- no character of a text is an unsafe character
abbrev Clean : List ℕ → Type 0
Clean text = AllByRecursion (λ c. is_unsafe c ≡ false) text

both : (xs ys : List ℕ) → Clean xs → Clean ys → Clean (xs ++ ys)
both xs ys h i = AllByRecursion-append (λ c. is_unsafe c ≡ false) xs ys h i

copies : (n c : ℕ) → is_unsafe c ≡ false → Clean (replicate n c)
copies n c h = AllByRecursion-replicate (λ c. is_unsafe c ≡ false) n c h

either : (b : Bool) (xs ys : List ℕ) → Clean xs → Clean ys → Clean (cond b xs ys)
either true xs ys h i = h
either false xs ys h i = i

replaced : (c : ℕ) (b : Bool) → is_unsafe c ≡ b → is_unsafe (cond b 0xFFFD c) ≡ false
replaced c true e = refl
replaced c false e = e

all_replaced : (text : List ℕ) → Clean (map safe_char text)
all_replaced [] = tt
all_replaced (c ∷ text) = (replaced c (is_unsafe c) refl, all_replaced text)

drawn_clean : (defensive : Bool) (text : List ℕ) → defensive ≡ true → Clean (drawn_chars defensive text)
drawn_clean true text e = all_replaced (chars text)
drawn_clean false text e = cc

-- printable characters are none
printable_char : (c : ℕ) → is_in_range 0x20 0x7E c ≡ true → is_unsafe c ≡ false
printable_char c e = grind (arith, nat_tests, e)

pub printable_clean : (text : List ℕ) → is_printable text ≡ true → Clean text
printable_clean [] e = tt
printable_clean (c ∷ text) e = let parts = and_parts (is_in_range 0x20 0x7E c) (is_printable text) e in (printable_char c parts.0, printable_clean text parts.1)

printable-time : (at : ℕ) → is_printable (time_text at) ≡ true
unfolding last_digits
printable-time at =
    let hours = seconds_of at / 3600 % 24 in
    let minutes = seconds_of at / 60 % 60 in
    let seconds = seconds_of at % 60 in
    let last = codes ":" ++ last_digits 2 seconds in
    printable-append (last_digits 2 hours) (codes ":" ++ (last_digits 2 minutes ++ last)) (printable-last_digits 2 hours)
    (printable-append (codes ":") (last_digits 2 minutes ++ last) refl
    (printable-append (last_digits 2 minutes) last (printable-last_digits 2 minutes)
    (printable-append (codes ":") (last_digits 2 seconds) refl (printable-last_digits 2 seconds))))

digit_clean : (d : ℕ) → d < 10 → is_unsafe (digit_glyph false d) ≡ false
digit_clean d h = grind (arith, nat_tests)

digits_clean : (k n : ℕ) (text : List ℕ) → Clean text → Clean (digits_onto k 10 false n text)
digits_clean zero n text h = h
digits_clean (suc k) n text h =
    let digit : Clean (digit_glyph false (n % 10) ∷ text) = (digit_clean (n % 10) (omega arith), h) in
    either (n / 10 == 0) (digit_glyph false (n % 10) ∷ text) (digits_onto k 10 false (n / 10) (digit_glyph false (n % 10) ∷ text)) digit
    (digits_clean k (n / 10) (digit_glyph false (n % 10) ∷ text) digit)

decimal_clean : (n : ℕ) → Clean (decimal n)
unfolding digits
decimal_clean n = digits_clean 64 n [] tt

fraction_clean : (step : ℕ) (bound : Option ℕ) → Clean (fraction_of step bound)
fraction_clean step None = decimal_clean step
fraction_clean step (Some bound) = both (decimal step) (codes "/" ++ decimal bound) (decimal_clean step) (refl, decimal_clean bound)

cell_clean : (b : Bool) → is_unsafe (cond b 61 32) ≡ false
cell_clean true = refl
cell_clean false = refl

cells_clean : (numbers : List ℕ) → Clean (map numbered_cell numbers)
cells_clean [] = tt
cells_clean (n ∷ numbers) = (cell_clean (nat_lt (n % 6) 3), cells_clean numbers)

prefix_clean : (columns : ℕ) (text : List ℕ) (k : ℕ) → Clean text → Clean (longest_prefix_of columns text k)
prefix_clean columns text zero h = tt
prefix_clean columns text (suc k) h =
    either (nat_le (width_of (styled None (take (suc k) text))) columns) (take (suc k) text) (longest_prefix_of columns text k)
    (AllByRecursion-take (λ c. is_unsafe c ≡ false) (suc k) text h) (prefix_clean columns text k h)

longest_clean : (columns : ℕ) (text : List ℕ) → Clean text → Clean (longest_prefix columns text)
unfolding longest_prefix
longest_clean columns text h = prefix_clean columns text (length text) h

-- ---- lines as they are drawn

in_color_clean : (colored : Bool) (line : Line) → IsSafe line → IsSafe (in_color colored line)
in_color_clean colored [] h = tt
in_color_clean colored (p ∷ ps) h = (h.0, in_color_clean colored ps h.1)

kept_or_cut : (b : Bool) (p : Piece) (text : List ℕ) (line : Line) → Clean p.text → Clean text → IsSafe line → IsSafe (cond b (p ∷ line) (styled p.style text ∷ []))
kept_or_cut true p text line h i hs = (h, hs)
kept_or_cut false p text line h i hs = (i, tt)

cut_to_clean : (columns : ℕ) (line : Line) → IsSafe line → IsSafe (cut_to columns line)
cut_to_clean columns [] h = tt
cut_to_clean columns (p ∷ ps) h =
    kept_or_cut (nat_le (width_of p) columns) p (longest_prefix columns p.text) (cut_to (columns - width_of p) ps) h.0 (longest_clean columns p.text h.0) (cut_to_clean (columns - width_of p) ps h.1)

cut_clean : (limit : Option ℕ) (line : Line) → IsSafe line → IsSafe (cut limit line)
cut_clean None line h = h
cut_clean (Some columns) line h = cut_to_clean columns line h

as_drawn_clean : (options : Options) (line : Line) → IsSafe line → IsSafe (as_drawn options line)
as_drawn_clean options line h = cut_clean (limit_of options) (in_color options.colored line) (in_color_clean options.colored line h)

pieces : (xs ys : Line) → IsSafe xs → IsSafe ys → IsSafe (xs ++ ys)
pieces xs ys h i = AllByRecursion-append (λ p. AllByRecursion (λ c. is_unsafe c ≡ false) p.text) xs ys h i

-- ---- rows

values_clean : (defensive : Bool) (unit : Option Measure) (p : RowProgress) (t : Option Throughput) → defensive ≡ true → IsSafe (values_by defensive unit p t)
values_clean defensive None p t e = (fraction_clean p.counter p.bound, tt)
values_clean defensive (Some unit) p t e = (drawn_clean defensive _ e, ((refl, tt), (drawn_clean defensive _ e, tt)))

one_or_none : (b : Bool) (line : Line) → IsSafe line → IsSafe (cond b [] line)
one_or_none true line h = tt
one_or_none false line h = h

bar_clean : (style : Style) (columns step : ℕ) (bound : Option ℕ) → IsSafe (bar style columns step bound)
bar_clean style columns step None = one_or_none (columns == 0) (unbounded_bar style columns step) ((refl, (refl, tt)), (cells_clean _, ((refl, tt), tt)))
bar_clean style columns step (Some bound) = one_or_none (columns == 0) (bounded_bar style columns step bound)
    ((refl, (refl, tt)), (copies _ 61 refl, ((refl, tt), (copies _ 45 refl, ((refl, tt), tt)))))

timed_clean : (defensive : Bool) (width : ℕ) (values : Line) (time : Option TaskTime) → defensive ≡ true → IsSafe values → IsSafe (with_time defensive width values time)
timed_clean defensive width values None e h = h
timed_clean defensive width values (Some t) e h = pieces values (time_line defensive (width - columns_of values) t) h (drawn_clean defensive _ e, tt)

row_clean : (defensive : Bool) (width : ℕ) (most : Option ℕ) (midpoint : ℕ) (row : PathRow) (progress : Option RowProgress) (t : Option Throughput) (time : Option TaskTime) → defensive ≡ true
    → IsSafe (row_line_with defensive width most midpoint row progress t time)
row_clean defensive width most midpoint row None t time e = (copies _ 32 refl, (drawn_clean defensive row.1.name e, tt))
row_clean defensive width most midpoint row (Some p) t time e =
    let values = with_time defensive width (padded defensive midpoint row p t) time in
    pieces values (bar (row_style p) (bar_columns most (width - columns_of values)) p.counter p.bound)
    (timed_clean defensive width (padded defensive midpoint row p t) time e (copies _ 32 refl, (drawn_clean defensive row.1.name e, ((refl, tt), (copies _ 32 refl, values_clean defensive p.unit p t e)))))
    (bar_clean (row_style p) (bar_columns most (width - columns_of values)) p.counter p.bound)

rows_clean : (options : Options) (midpoint : ℕ) (times : Times) (rows : List DrawnRow) → options.defensive ≡ true → AllByRecursion IsSafe (row_lines options midpoint times rows)
rows_clean options midpoint times [] e = tt
rows_clean options midpoint times (row ∷ rows) e =
    (as_drawn_clean options _ (row_clean options.defensive options.terminal_dimensions.0 options.bar_columns midpoint row.0 row.0.1.progress row.1 (times row.0) e), rows_clean options midpoint times rows e)

none_or_one : (b : Bool) (line : Line) → IsSafe line → AllByRecursion IsSafe (cond b [] (line ∷ []))
none_or_one true line h = tt
none_or_one false line h = (h, tt)

ellipsis_clean : (ascii : Bool) → Clean (codes " " ++ (ellipsis ascii ++ codes " and "))
ellipsis_clean true = (refl, (refl, (refl, (refl, (refl, (refl, (refl, (refl, (refl, tt)))))))))
ellipsis_clean false = (refl, (refl, (refl, (refl, (refl, (refl, (refl, tt)))))))

more_clean : (options : Options) (n : ℕ) → AllByRecursion IsSafe (more_lines options n)
more_clean options n =
    none_or_one (nat_eq n 0 || nat_lt options.terminal_dimensions.1 2) (as_drawn options (more_line options.ascii n))
    (as_drawn_clean options (more_line options.ascii n) (ellipsis_clean options.ascii, (decimal_clean n, ((refl, (refl, (refl, (refl, (refl, tt))))), tt))))

lines_clean : (r : Renderer) (at : ℕ) (rows : List PathRow) → r.options.defensive ≡ true → AllByRecursion IsSafe (drawn_lines r at rows)
lines_clean r at rows e =
    let more = length (drawn_rows r at rows) - length (fitting_rows r at rows) in
    AllByRecursion-append IsSafe (row_lines r.options r.midpoint (times_at r.timer at) (fitting_rows r at rows)) (more_lines r.options more)
    (rows_clean r.options r.midpoint (times_at r.timer at) (fitting_rows r at rows) e) (more_clean r.options more)

-- ---- messages

time_clean : (timestamp : Bool) (m : Message) → IsSafe (time_of timestamp m)
time_clean true m = (subst Clean (sym (chars-printable (time_text m.time) (printable-time m.time))) (printable_clean (time_text m.time) (printable-time m.time)), ((refl, tt), tt))
time_clean false m = tt

bare_text_clean : (defensive : Bool) (m : Message) → defensive ≡ true → IsSafe (bare_text_of defensive m)
bare_text_clean defensive m e = (drawn_clean defensive m.message e, tt)

text_clean : (defensive : Bool) (width : ℕ) (m : Message) → defensive ≡ true → IsSafe (text_of defensive width m)
text_clean defensive width m e = (
  both (replicate (width - origin_width defensive m.origin) 32) (drawn_chars defensive m.origin) (copies _ 32 refl) (drawn_clean defensive m.origin e),
  ((refl, tt), bare_text_clean defensive m e),
)

one_of_lines : (b : Bool) (xs ys : Line) → IsSafe xs → IsSafe ys → IsSafe (cond b xs ys)
one_of_lines true xs ys h i = h
one_of_lines false xs ys h i = i

message_line_clean : (options : Options) (width : ℕ) (m : Message) → options.defensive ≡ true → IsSafe (message_line options width m)
message_line_clean options width m e =
    let time = time_of options.timestamp m in
    let bare_text = bare_text_of options.defensive m in
    let text = text_of options.defensive width m in
    one_of_lines (is_bare options m) (time ++ bare_text) (spaces 1 ∷ time ++ text)
    (pieces time bare_text (time_clean options.timestamp m) (bare_text_clean options.defensive m e))
    ((refl, tt), pieces time text (time_clean options.timestamp m) (text_clean options.defensive width m e))

message_clean : (options : Options) (line : Line) → IsSafe line → IsSafe (cut (message_limit_of options) (in_color options.colored line))
message_clean options line h = cut_clean (message_limit_of options) (in_color options.colored line) (in_color_clean options.colored line h)

messages_clean : (options : Options) (widths : List ℕ) (messages : List Message) → options.defensive ≡ true → AllByRecursion IsSafe (message_lines options widths messages)
messages_clean options widths [] e = tt
messages_clean options widths (m ∷ messages) e =
    let all = widths ++ origin_width options.defensive m.origin ∷ [] in (
      message_clean options (message_line options (greatest_width all) m) (message_line_clean options (greatest_width all) m e),
      messages_clean options all messages e,
    )

-- ---- frames

printed_clean : (r : Renderer) (input : Input) → r.options.defensive ≡ true → AllByRecursion IsSafe (printed_at r input)
printed_clean r (Tick at show (Some seen)) e = messages_clean r.options r.origin_widths seen.1 e
printed_clean r (Tick at show None) e = tt
printed_clean r (Resize at show columns height) e = tt
printed_clean r (Quit at) e = tt

body_clean : (action : Action) (drawing : Drawing) (ending : List Sign) → AllByRecursion IsSafe drawing.lines → AllByRecursion IsSafe (body_lines [] (body_of action drawing ending))
body_clean Leave drawing ending h = tt
body_clean Redraw drawing ending h = h
body_clean Erase drawing ending h = tt
body_clean Close drawing ending h = tt

defensive_still : (r : Renderer) (input : Input) → (remember r input).options.defensive ≡ r.options.defensive
defensive_still r (Tick at show (Some seen)) = refl
defensive_still r (Tick at show None) = refl
defensive_still r (Resize at show columns height) = refl
defensive_still r (Quit at) = refl

pub clean_frame : (r : Renderer) (input : Input) → r.options.defensive ≡ true → HasSafeLines (frame_at r input)
clean_frame r input e =
    let r' = remember r input in
    let still : r'.options.defensive ≡ true = defensive_still r input ∙ e in
    record {
      messages = printed_clean r input e;
      drawn = body_clean (action_at r input) (drawing_at r input) (ending_of r) (lines_clean r' (moment_of input) (latest_rows r'.last_rows) still);
    }

pub draws_safely : (r : Renderer) (input : Input) (s : ScreenState) (result : Result Answer Refusal) (r' : Renderer) (s' : ScreenState) → Renders r input s result r' s' → DrawsSafely r input s result s'
draws_safely r input s (Ok answer) r' s' h = λ e. record { written = h.screen.bytes; clean = clean_frame r input e }
draws_safely r input s (Err refusal) r' s' h = tt

-- each of a list of inputs
pub draws_safely_each : (r : Renderer) (s : ScreenState) (xs : List Rendering) (s' : ScreenState) → RendersAll r s xs s' → RendersEach DrawsSafelyOf r s xs s'
draws_safely_each = each DrawsSafelyOf (λ r s x s' h. draws_safely r x.input s x.result (renderer_after r x) s' h)
