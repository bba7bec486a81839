-- The frames of a renderer that erases rows, on any page of the terminal's size, for any widths of characters.
use Rattle.std.proofs.Common.{◌≡◌, ℕ, Result, Ok, Err, ◌+◌, ◌-◌, ◌<◌, ◌≤◌, nat_eq, nat_lt, Bool, true, false, cond, List, [], ◌∷◌, ◌++◌, length, refl, sym, ap, subst, ◌∙◌, length-append, Some, None, arith}
use Rattle.std.specs.Prelude.{◌&&◌, ◌||◌, ◌==◌, not, min}
use Rattle.std.specs.Char.{IsScalar, is_control}
use Rattle.std.specs.Int.{is_in_range}
use Rattle.std.specs.List.{AllByRecursion}
use Rattle.std.proofs.lemmas.List.{length-map}
use Rattle.std.proofs.lemmas.Bool.Decides.{nat_tests}
use Rattle.prodash_base.specs.Rows.{PathRow}
use Rattle.prodash_base.specs.declared.refusal.Refusal.{Refusal}
use Rattle.prodash_base.specs.declared.messages.Message.{Message}
use Rattle.prodash_line.specs.declared.render.line.draw.input.Options.{Options}
use Rattle.prodash_line.specs.declared.render.line.draw.input.Answer.{Answer}
use Rattle.prodash_line.specs.declared.render.line.draw.input.Input.{Input}
use Rattle.prodash_line.specs.declared.render.line.draw.input.Input.TheVariants.{Tick, Resize, Quit}
use Rattle.prodash_line.specs.declared.render.line.draw.action.Action.{Action}
use Rattle.prodash_line.specs.declared.render.line.draw.action.Action.TheVariants.{Leave, Redraw, Erase, Close}
use Rattle.prodash_line.specs.declared.render.line.draw.layout.Layout.{Layout}
use Rattle.prodash_line.specs.declared.render.line.draw.layout.Layout.TheVariants.{Overwriting, Erasing}
use Rattle.prodash_line.specs.declared.render.line.page.sign.Sign.{Sign}
use Rattle.prodash_line.specs.declared.render.line.page.sign.Sign.TheVariants.{CarriageReturn, EraseLine, ShowCursor}
use Rattle.prodash_line.specs.Lines.{Line, columns_of, line_text}
use Rattle.prodash_line.specs.DrawnLines.{as_drawn, erases_rows, layout_of, prints_whole}
use Rattle.prodash_line.specs.ProgressRows.{DrawnRow, Times, times_at, drawn_row_line, row_lines, fitting_count, fitting, more_line, more_lines}
use Rattle.prodash_line.specs.MessageLines.{message_lines}
use Rattle.prodash_line.specs.Frames.{Body, Unchanged, Draws, Closes, Frame, body_lines, frame_signs}
use Rattle.prodash_line.specs.UnsafeCharacters.{is_unsafe, is_bidi_control}
use Rattle.prodash_line.specs.SafeFrames.{IsSafe, HasSafeLines}
use Rattle.prodash_line.specs.Reading.{AreProper}
use Rattle.prodash_line.specs.Renderer.{Renderer, Drawing, has_messages, closes_at, is_drawn, is_cursor_hidden, ending_of, drawn_rows, drawn_lines, latest_rows, remember, moment_of, drawing_at, action_at, printed_at, body_of, frame_at, Renders, frame_bytes}
use Rattle.prodash_line.specs.Screens.{ScreenState, WritesFrame}
use Rattle.prodash_line.specs.Renderings.{Rendering, RendersEach, renderer_after}
use Rattle.prodash_line.specs.plumbing.RenderedInputs.{RendersAll}
use Rattle.prodash_line.specs.ErasedPages.{cut_lines_of, HasScalars, ShowsWhole, ShowsInOneRow, ShowsBody, ErasesPages, ErasesPagesOf, ShowsAnywhere}
use Rattle.prodash_line.specs.Terminals.{terminal_after}
use Rattle.prodash_line.proofs.FittingRows.{first_true, second_true, length-fitting}
use Rattle.prodash_line.proofs.FittingFrames.{AreWithin, BodyWithin, FrameWithin, frame_cut}
use Rattle.prodash_line.proofs.Lists.{AllByRecursion-append, AllByRecursion-parts}
use Rattle.prodash_line.proofs.OrderlyFrames.{orderly_at}
use Rattle.prodash_line.proofs.OverwriteBytes.{counted}
use Rattle.prodash_line.proofs.ProperFrames.{IsProperText, IsProperLine, HasProperLines, frame_proper}
use Rattle.prodash_line.proofs.UnseenSigns.{IsUnseen}
use Rattle.prodash_line.proofs.Renderings.{each}
use Rattle.prodash_line.proofs.ErasedPages.{IsLow, EndsUnseen, NoneLeft, ErasesRows, shows_frame}
use Rattle.prodash_line.proofs.WholeTexts.{shows_whole, shows_in_one_row}
use Rattle.prodash_line.proofs.SafeFrames.{clean_frame}

-- ---- drawn lines are fewer than the window's rows

one_if : (none : Bool) (line : Line) → length (cond none [] (line ∷ [])) ≡ cond none 0 1
one_if true line = refl
one_if false line = refl

few_by : (n height count : ℕ) → count ≡ min (cond (nat_lt n height) n (height - 2)) n → 0 < height
    → count + cond (nat_eq (n - count) 0 || nat_lt height 2) 0 1 < height
few_by n height count e i = grind (arith, nat_tests)

few_lines : (options : Options) (midpoint : ℕ) (times : Times) (rows : List DrawnRow) → layout_of options ≡ Erasing options.terminal_dimensions.1 options.synchronized options.whole_messages → 0 < options.terminal_dimensions.1
    → length (row_lines options midpoint times (fitting options rows) ++ more_lines options (length rows - length (fitting options rows))) < options.terminal_dimensions.1
few_lines options midpoint times rows e i =
    let height = options.terminal_dimensions.1 in
    let fit = fitting options rows in
    let others = length rows - length fit in
    let none = nat_eq others 0 || nat_lt height 2 in
    let size : length (row_lines options midpoint times fit ++ more_lines options others) ≡ length (row_lines options midpoint times fit) + length (more_lines options others) = length-append (row_lines options midpoint times fit) (more_lines options others) in
    let mapped : length (row_lines options midpoint times fit) ≡ length fit = length-map fit (drawn_row_line options midpoint times) in
    let more : length (more_lines options others) ≡ cond none 0 1 = one_if none (as_drawn options (more_line options.ascii others)) in
    let taken : length fit ≡ min (cond (nat_lt (length rows) height) (length rows) (height - 2)) (length rows) =
    length-fitting options rows ∙ ap (λ (l : Layout). min (fitting_count l (length rows)) (length rows)) e in
    let few : length fit + cond none 0 1 < height = few_by (length rows) height (length fit) taken i in
    subst (λ (n : ℕ). n < height) (sym (size ∙ ap (λ (n : ℕ). n + length (more_lines options others)) mapped ∙ ap (λ (n : ℕ). length fit + n) more)) few

erasing_layout : (options : Options) → erases_rows options ≡ true → layout_of options ≡ Erasing options.terminal_dimensions.1 options.synchronized options.whole_messages
erasing_layout options e = ap (λ (b : Bool). cond b (Erasing options.terminal_dimensions.1 options.synchronized options.whole_messages) Overwriting) e

pub few_drawn : (r : Renderer) (at : ℕ) (rows : List PathRow) → erases_rows r.options ≡ true → 0 < r.options.terminal_dimensions.1 → length (drawn_lines r at rows) < r.options.terminal_dimensions.1
few_drawn r at rows e i = few_lines r.options r.midpoint (times_at r.timer at) (drawn_rows r at rows) (erasing_layout r.options e) i

erases_still : (r : Renderer) (input : Input) → erases_rows (remember r input).options ≡ erases_rows r.options
erases_still r (Tick at show (Some seen)) = refl
erases_still r (Tick at show None) = refl
erases_still r (Resize at show width rows) = refl
erases_still r (Quit at) = refl

whole_still : (r : Renderer) (input : Input) → (remember r input).options.whole_messages ≡ r.options.whole_messages
whole_still r (Tick at show (Some seen)) = refl
whole_still r (Tick at show None) = refl
whole_still r (Resize at show width rows) = refl
whole_still r (Quit at) = refl

-- ---- drawn lines are low

body_low : (action : Action) (drawing : Drawing) (ending : List Sign) (height : ℕ) → length drawing.lines < height → 0 < height → IsLow height (body_of action drawing ending)
body_low Leave drawing ending height few i = tt
body_low Redraw drawing ending height few i = few
body_low Erase drawing ending height few i = i
body_low Close drawing ending height few i = tt

-- ---- how frames end

ends : (hidden defensive terminal : Bool) → (defensive && terminal) ≡ true
    → AllByRecursion IsUnseen (cond hidden (ShowCursor ∷ []) [] ++ cond (terminal && not defensive) (EraseLine ∷ CarriageReturn ∷ []) [])
ends true true true e = (tt, tt)
ends false true true e = tt
ends hidden true false e = cc
ends hidden false terminal e = cc

body_ends : (action : Action) (drawing : Drawing) (ending : List Sign) → AllByRecursion IsUnseen ending → EndsUnseen (body_of action drawing ending)
body_ends Leave drawing ending h = tt
body_ends Redraw drawing ending h = tt
body_ends Erase drawing ending h = tt
body_ends Close drawing ending h = h

-- a tick that leaves the lines on screen prints no message
left_by : (action : Action) (drawing : Drawing) (ending : List Sign) (messages : List Line) → (action ≡ Leave → messages ≡ []) → NoneLeft (body_of action drawing ending) messages
left_by Leave drawing ending messages h = h refl
left_by Redraw drawing ending messages h = tt
left_by Erase drawing ending messages h = tt
left_by Close drawing ending messages h = tt

erases : (closes drawn erasing printed : Bool) → erasing ≡ true → printed ≡ true → cond closes Close (cond drawn Redraw (cond (erasing && printed) Erase Leave)) ≡ Leave → ⊥
erases true drawn erasing printed c p e = cc
erases false true erasing printed c p e = cc
erases false false true true c p e = cc
erases false false true false c p e = cc
erases false false false printed c p e = cc

none_seen : (r : Renderer) (show : Bool) (rows : List PathRow) (pushed at : ℕ) (messages : List Message) → erases_rows r.options ≡ true
    → action_at r (Tick at show (Some (rows, messages, pushed))) ≡ Leave → message_lines r.options r.origin_widths messages ≡ []
none_seen r show rows pushed at [] c e = refl
none_seen r show rows pushed at (m ∷ messages) c e =
    let printed = has_messages (m ∷ messages) in
    absurd (erases (closes_at r rows) (is_drawn r show printed rows) (erases_rows r.options) printed c (counted (length (m ∷ messages)) (omega arith)) e)

none_printed : (r : Renderer) (input : Input) → erases_rows r.options ≡ true → action_at r input ≡ Leave → printed_at r input ≡ []
none_printed r (Tick at show (Some seen)) c e = none_seen r show seen.0 seen.2 at seen.1 c e
none_printed r (Tick at show None) c e = refl
none_printed r (Resize at show width rows) c e = refl
none_printed r (Quit at) c e = refl

-- ---- characters

first_fails : (a b : Bool) → (a || b) ≡ false → a ≡ false
first_fails false b e = refl
first_fails true b e = e

-- a safe character is no control character
no_control : (c : ℕ) → is_unsafe c ≡ false → is_control c ≡ false
no_control c e =
    let bidi = is_bidi_control c in
    let separator = is_in_range 0x2028 0x2029 c in
    first_fails (is_control c) bidi (first_fails (is_control c || bidi) separator (first_fails (is_control c || bidi || separator) (c == 0xFEFF) e))

-- scalar values that are safe are proper
chars_proper : (text : List ℕ) → AllByRecursion IsScalar text → AllByRecursion (λ c. is_unsafe c ≡ false) text → IsProperText text
chars_proper [] scalars clean = tt
chars_proper (c ∷ text) scalars clean = ((scalars.0, no_control c clean.0), chars_proper text scalars.1 clean.1)

line_proper : (line : Line) → AllByRecursion IsScalar (line_text line) → IsSafe line → IsProperLine line
line_proper [] scalars clean = tt
line_proper (p ∷ ps) scalars clean =
    let parts = AllByRecursion-parts IsScalar p.text (line_text ps) scalars in
    (chars_proper p.text parts.0 clean.0, line_proper ps parts.1 clean.1)

lines_proper : (lines : List Line) → AllByRecursion (λ line. AllByRecursion IsScalar (line_text line)) lines → AllByRecursion IsSafe lines → AllByRecursion IsProperLine lines
lines_proper [] scalars clean = tt
lines_proper (line ∷ lines) scalars clean = (line_proper line scalars.0 clean.0, lines_proper lines scalars.1 clean.1)

pub has_proper : (f : Frame) → HasScalars f → HasSafeLines f → HasProperLines f
has_proper f scalars clean =
    let parts = AllByRecursion-parts (λ line. AllByRecursion IsScalar (line_text line)) f.messages (body_lines [] f.body) scalars in
    record { messages = lines_proper f.messages parts.0 clean.messages; drawn = lines_proper (body_lines [] f.body) parts.1 clean.drawn }

-- ---- lines that show whole

line_whole : (columns : ℕ → ℕ) (width : ℕ) (line : Line) → columns_of line ≤ width → ShowsWhole columns width line
line_whole columns width line within = λ fits. shows_whole columns width (line_text line) (omega arith)

lines_whole : (columns : ℕ → ℕ) (width : ℕ) (lines : List Line) → AreWithin true width lines → AllByRecursion (ShowsWhole columns width) lines
lines_whole columns width [] h = tt
lines_whole columns width (line ∷ lines) h = (line_whole columns width line h.0, lines_whole columns width lines h.1)

-- whole messages that have room show in one row
each_in_one_row : (columns : ℕ → ℕ) (width : ℕ) (lines : List Line) → AllByRecursion (ShowsInOneRow columns width) lines
each_in_one_row columns width [] = tt
each_in_one_row columns width (line ∷ lines) = (λ fits. shows_in_one_row columns width (line_text line) fits, each_in_one_row columns width lines)

drawn_within : (width : ℕ) (b : Body) → BodyWithin true width b → AreWithin true width (body_lines [] b)
drawn_within width Unchanged h = tt
drawn_within width (Draws lines) h = h
drawn_within width (Closes ending) h = tt

cut_whole : (columns : ℕ → ℕ) (width : ℕ) (whole : Bool) (messages : List Line) → (whole ≡ false → AreWithin true width messages) → AllByRecursion (ShowsWhole columns width) (cond whole [] messages)
cut_whole columns width true messages h = tt
cut_whole columns width false messages h = lines_whole columns width messages (h refl)

frame_whole : (columns : ℕ → ℕ) (width : ℕ) (f : Frame) → FrameWithin true width f → AllByRecursion (ShowsWhole columns width) (cut_lines_of f)
frame_whole columns width f h = AllByRecursion-append (ShowsWhole columns width) (cond (prints_whole f.layout) [] f.messages) (body_lines [] f.body)
    (cut_whole columns width (prints_whole f.layout) f.messages h.messages) (lines_whole columns width (body_lines [] f.body) (drawn_within width f.body h.body))

-- ---- the frame of an input

pub frame_erases : (r : Renderer) (input : Input) → erases_rows r.options ≡ true → 0 < (remember r input).options.terminal_dimensions.1
    → ErasesRows (remember r input).options.terminal_dimensions.1 r.options.whole_messages (frame_at r input)
frame_erases r input c high =
    let r' = remember r input in
    let f = frame_at r input in
    let drawing = drawing_at r input in
    let height = r'.options.terminal_dimensions.1 in
    let c' : erases_rows r'.options ≡ true = erases_still r input ∙ c in
    let few = few_drawn r' (moment_of input) (latest_rows r'.last_rows) c' high in
    record {
      synchronized = r'.options.synchronized;
      layout = erasing_layout r'.options c' ∙ ap (Erasing height r'.options.synchronized) (whole_still r input);
      opening = (orderly_at r input).opening;
      low = body_low (action_at r input) drawing (ending_of r) height few high;
      ends = body_ends (action_at r input) drawing (ending_of r) (ends (is_cursor_hidden r) r.options.defensive r.options.output_is_terminal c);
      left = left_by (action_at r input) drawing (ending_of r) f.messages (none_printed r input c);
    }

-- its signs are proper
pub erased_proper : (r : Renderer) (input : Input) (widths : List ℕ) → erases_rows r.options ≡ true → HasScalars (frame_at r input) → AreProper (frame_signs widths (frame_at r input))
erased_proper r input widths c scalars =
    let f = frame_at r input in
    frame_proper widths f (has_proper f scalars (clean_frame r input (first_true r.options.defensive r.options.output_is_terminal c))) (orderly_at r input)

-- every page shows the frame after its signs
erased_frame : (r : Renderer) (input : Input) (s : ScreenState) (s' : ScreenState) → WritesFrame (frame_bytes r input) s s' → erases_rows r.options ≡ true → ShowsAnywhere (remember r input).options.terminal_dimensions (frame_at r input) s.bytes s'.bytes
erased_frame r input s s' writes c = record {
  signs = frame_signs r.widths (frame_at r input);
  written = writes.bytes;
  proper = erased_proper r input r.widths c;
  shows = λ columns page has.
      let size = (remember r input).options.terminal_dimensions in
      let high : 0 < size.1 = omega (arith, has.row, has.window, has.height) in
      let f = frame_at r input in
      let erases = frame_erases r input c high in
      subst (λ (whole : Bool). ShowsBody whole columns page f.messages f.body (terminal_after columns (frame_signs r.widths f) page)) (sym (ap prints_whole erases.layout))
      (shows_frame columns size r.options.whole_messages page r.widths f has erases);
  whole = λ columns.
      frame_whole columns (remember r input).options.terminal_dimensions.0 (frame_at r input) (frame_cut r input (second_true r.options.defensive r.options.output_is_terminal c));
  one_row = λ columns. each_in_one_row columns (remember r input).options.terminal_dimensions.0 (frame_at r input).messages;
}

pub erases_pages : (r : Renderer) (input : Input) (s : ScreenState) (result : Result Answer Refusal) (r' : Renderer) (s' : ScreenState) → Renders r input s result r' s' → ErasesPages r input s result s'
erases_pages r input s (Ok answer) r' s' h = erased_frame r input s s' h.screen
erases_pages r input s (Err refusal) r' s' h = tt

-- each of a list of inputs
pub erases_each : (r : Renderer) (s : ScreenState) (xs : List Rendering) (s' : ScreenState) → RendersAll r s xs s' → RendersEach ErasesPagesOf r s xs s'
erases_each = each ErasesPagesOf (λ r s x s' h. erases_pages r x.input s x.result (renderer_after r x) s' h)
