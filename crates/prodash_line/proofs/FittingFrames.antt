-- The lines of a terminal's frames are no wider than the terminal, since they are cut to its width.
use Rattle.std.proofs.Common.{◌≡◌, ℕ, ◌-◌, ◌≤◌, nat_eq, nat_lt, Bool, true, false, cond, List, [], ◌∷◌, ◌++◌, length, refl, sym, ap, subst, ◌∙◌, Option, Some, None}
use Rattle.std.specs.Prelude.{⊤, ◌||◌, MatchBool}
use Rattle.std.specs.Bool.{then_some}
use Rattle.std.specs.List.{AllByRecursion}
use Rattle.prodash_base.specs.Rows.{PathRow}
use Rattle.prodash_base.specs.declared.messages.Message.{Message}
use Rattle.prodash_line.specs.declared.render.line.draw.input.Options.{Options}
use Rattle.prodash_line.specs.declared.render.line.draw.input.Input.{Input}
use Rattle.prodash_line.specs.declared.render.line.draw.input.Input.TheVariants.{Tick, Resize, Quit}
use Rattle.prodash_line.specs.declared.render.line.draw.action.Action.{Action}
use Rattle.prodash_line.specs.declared.render.line.draw.action.Action.TheVariants.{Leave, Redraw, Erase, Close}
use Rattle.prodash_line.specs.declared.render.line.page.sign.Sign.{Sign}
use Rattle.prodash_line.specs.Lines.{Line, columns_of, cut, in_color}
use Rattle.prodash_line.specs.DrawnLines.{limit_of, as_drawn, layout_of, prints_whole}
use Rattle.prodash_line.specs.ProgressRows.{DrawnRow, Times, times_at, row_line, row_lines, more_line, more_lines}
use Rattle.prodash_line.specs.MessageLines.{message_line, message_lines, origin_width, greatest_width}
use Rattle.prodash_line.specs.Frames.{Body, Unchanged, Draws, Closes, Frame}
use Rattle.prodash_line.specs.Fits.{LineFits, LinesFit, BodyFits, FrameFits}
use Rattle.prodash_line.specs.Renderer.{Renderer, Drawing, ending_of, drawn_rows, fitting_rows, drawn_lines, drawing_at, latest_rows, remember, moment_of, action_at, printed_at, body_of, frame_at}
use Rattle.prodash_line.specs.Renderings.{Rendering, renderer_after, attempts_of, drawn_frames, KeepsSize}
use Rattle.prodash_line.proofs.Cutting.{cut_within}
use Rattle.prodash_line.proofs.Lists.{AllByRecursion-append}
use Rattle.prodash_line.proofs.Renderings.{frames_after, options_after}

-- if lines are cut, they are no wider than this
abbrev pub IsWithin : Bool → ℕ → Line → Type 0
IsWithin cut columns line = MatchBool cut (columns_of line ≤ columns) ⊤

abbrev pub AreWithin : Bool → ℕ → List Line → Type 0
AreWithin cut columns lines = AllByRecursion (IsWithin cut columns) lines

abbrev pub BodyWithin : Bool → ℕ → Body → Type 0
BodyWithin cut columns Unchanged = ⊤
BodyWithin cut columns (Draws lines) = AreWithin cut columns lines
BodyWithin cut columns (Closes ending) = ⊤

pub record FrameWithin (cut : Bool) (columns : ℕ) (f : Frame) : Type 0 where
  pub messages : prints_whole f.layout ≡ false → AreWithin cut columns f.messages
  pub body : BodyWithin cut columns f.body

-- a terminal of these columns, or none
record HasWidth (cut : Bool) (columns : ℕ) (options : Options) : Type 0 where
  terminal : options.output_is_terminal ≡ cut
  width : options.terminal_dimensions.0 ≡ columns

-- ---- the lines of a frame

cut_by : (b : Bool) (columns : ℕ) (line : Line) → IsWithin b columns (cut (then_some b columns) line)
cut_by true columns line = cut_within columns line
cut_by false columns line = tt

drawn_within : (cut : Bool) (columns : ℕ) (options : Options) (line : Line) → HasWidth cut columns options → IsWithin cut columns (as_drawn options line)
drawn_within cut columns options line h =
    subst (λ n. IsWithin cut n (as_drawn options line)) h.width
    (subst (λ b. IsWithin b options.terminal_dimensions.0 (as_drawn options line)) h.terminal
    (cut_by options.output_is_terminal options.terminal_dimensions.0 (in_color options.colored line)))

rows_within : (cut : Bool) (columns : ℕ) (options : Options) (midpoint : ℕ) (times : Times) (rows : List DrawnRow) → HasWidth cut columns options → AreWithin cut columns (row_lines options midpoint times rows)
rows_within cut columns options midpoint times [] h = tt
rows_within cut columns options midpoint times (row ∷ rows) h =
    (drawn_within cut columns options (row_line options.defensive options.terminal_dimensions.0 options.bar_columns midpoint row (times row.0)) h, rows_within cut columns options midpoint times rows h)

none_or_within : (cut : Bool) (columns : ℕ) (b : Bool) (line : Line) → IsWithin cut columns line → AreWithin cut columns (cond b [] (line ∷ []))
none_or_within cut columns true line h = tt
none_or_within cut columns false line h = (h, tt)

more_within : (cut : Bool) (columns : ℕ) (options : Options) (n : ℕ) → HasWidth cut columns options → AreWithin cut columns (more_lines options n)
more_within cut columns options n h =
    none_or_within cut columns (nat_eq n 0 || nat_lt options.terminal_dimensions.1 2) (as_drawn options (more_line options.ascii n)) (drawn_within cut columns options (more_line options.ascii n) h)

drawn_lines_within : (cut : Bool) (columns : ℕ) (r : Renderer) (at : ℕ) (rows : List PathRow) → HasWidth cut columns r.options → AreWithin cut columns (drawn_lines r at rows)
drawn_lines_within cut columns r at rows h =
    let more = length (drawn_rows r at rows) - length (fitting_rows r at rows) in
    AllByRecursion-append (IsWithin cut columns) (row_lines r.options r.midpoint (times_at r.timer at) (fitting_rows r at rows)) (more_lines r.options more)
    (rows_within cut columns r.options r.midpoint (times_at r.timer at) (fitting_rows r at rows) h) (more_within cut columns r.options more h)

-- a message is cut unless messages are written whole
message_within : (whole : Bool) (limit : Option ℕ) (cuts : Bool) (columns : ℕ) (line : Line) → whole ≡ false → IsWithin cuts columns (cut limit line) → IsWithin cuts columns (cut (cond whole None limit) line)
message_within true limit cuts columns line e h = cc
message_within false limit cuts columns line e h = h

messages_within : (cut : Bool) (columns : ℕ) (options : Options) (widths : List ℕ) (messages : List Message) → prints_whole (layout_of options) ≡ false → HasWidth cut columns options → AreWithin cut columns (message_lines options widths messages)
messages_within cut columns options widths [] e h = tt
messages_within cut columns options widths (m ∷ messages) e h =
    let all = widths ++ origin_width options.defensive m.origin ∷ [] in
    let line = message_line options (greatest_width all) m in
    (message_within (prints_whole (layout_of options)) (limit_of options) cut columns (in_color options.colored line) e (drawn_within cut columns options line h), messages_within cut columns options all messages e h)

printed_within : (cut : Bool) (columns : ℕ) (r : Renderer) (input : Input) → prints_whole (frame_at r input).layout ≡ false → HasWidth cut columns r.options → AreWithin cut columns (printed_at r input)
printed_within cut columns r (Tick at show (Some seen)) e h = messages_within cut columns r.options r.origin_widths seen.1 e h
printed_within cut columns r (Tick at show None) e h = tt
printed_within cut columns r (Resize at show width rows) e h = tt
printed_within cut columns r (Quit at) e h = tt

body_within : (cut : Bool) (columns : ℕ) (action : Action) (drawing : Drawing) (ending : List Sign) → AreWithin cut columns drawing.lines → BodyWithin cut columns (body_of action drawing ending)
body_within cut columns Leave drawing ending h = tt
body_within cut columns Redraw drawing ending h = h
body_within cut columns Erase drawing ending h = tt
body_within cut columns Close drawing ending h = tt

-- the size that is remembered
size_kept : (cut : Bool) (columns height : ℕ) (r : Renderer) (input : Input) → KeepsSize columns height input → HasWidth cut columns r.options → HasWidth cut columns (remember r input).options
size_kept cut columns height r (Tick at show (Some seen)) k h = h
size_kept cut columns height r (Tick at show None) k h = h
size_kept cut columns height r (Resize at show width rows) k h = record { terminal = h.terminal; width = k.0 }
size_kept cut columns height r (Quit at) k h = h

frame_within : (cut : Bool) (columns height : ℕ) (r : Renderer) (input : Input) → KeepsSize columns height input → HasWidth cut columns r.options → FrameWithin cut columns (frame_at r input)
frame_within cut columns height r input k h =
    let r' = remember r input in
    record {
      messages = λ e. printed_within cut columns r input e h;
      body = body_within cut columns (action_at r input) (drawing_at r input) (ending_of r)
          (drawn_lines_within cut columns r' (moment_of input) (latest_rows r'.last_rows) (size_kept cut columns height r input k h));
    }

-- on a terminal, whatever size is remembered
printed_cut : (r : Renderer) (input : Input) → r.options.output_is_terminal ≡ true → prints_whole (frame_at r input).layout ≡ false → AreWithin true (remember r input).options.terminal_dimensions.0 (printed_at r input)
printed_cut r (Tick at show (Some seen)) e cuts =
    messages_within true r.options.terminal_dimensions.0 r.options r.origin_widths seen.1 cuts (record { terminal = e; width = refl })
printed_cut r (Tick at show None) e cuts = tt
printed_cut r (Resize at show width rows) e cuts = tt
printed_cut r (Quit at) e cuts = tt

terminal_kept : (r : Renderer) (input : Input) → (remember r input).options.output_is_terminal ≡ r.options.output_is_terminal
terminal_kept r (Tick at show (Some seen)) = refl
terminal_kept r (Tick at show None) = refl
terminal_kept r (Resize at show width rows) = refl
terminal_kept r (Quit at) = refl

pub frame_cut : (r : Renderer) (input : Input) → r.options.output_is_terminal ≡ true → FrameWithin true (remember r input).options.terminal_dimensions.0 (frame_at r input)
frame_cut r input e =
    let r' = remember r input in
    record {
      messages = λ cuts. printed_cut r input e cuts;
      body = body_within true r'.options.terminal_dimensions.0 (action_at r input) (drawing_at r input) (ending_of r)
          (drawn_lines_within true r'.options.terminal_dimensions.0 r' (moment_of input) (latest_rows r'.last_rows) (record { terminal = terminal_kept r input ∙ e; width = refl }));
    }

-- ---- the frames of a list of inputs

frames_within : (cut : Bool) (columns height : ℕ) (r : Renderer) (xs : List Rendering) → AllByRecursion (λ x. KeepsSize columns height x.input) xs → HasWidth cut columns r.options
    → AllByRecursion (FrameWithin cut columns) (drawn_frames r xs)
frames_within cut columns height r [] k h = tt
frames_within cut columns height r (x ∷ xs) k h =
    frames_after (FrameWithin cut columns) (frame_at r x.input) x.result (attempts_of (renderer_after r x) xs) (frame_within cut columns height r x.input k.0 h)
    (frames_within cut columns height (renderer_after r x) xs k.1 (options_after (HasWidth cut columns) r x.input x.result h (size_kept cut columns height r x.input k.0 h)))

-- ---- what fits

line_fits : (cut : Bool) (columns : ℕ) (line : Line) → LineFits cut columns line → IsWithin cut columns line → LineFits false columns line
line_fits true columns line h w = record { plain = h.plain; within = w }
line_fits false columns line h w = h

pub lines_fit : (cut : Bool) (columns : ℕ) (lines : List Line) → LinesFit cut columns lines → AreWithin cut columns lines → LinesFit false columns lines
lines_fit cut columns [] h w = tt
lines_fit cut columns (line ∷ lines) h w = (line_fits cut columns line h.0 w.0, lines_fit cut columns lines h.1 w.1)

pub body_fits : (cut : Bool) (columns height : ℕ) (b : Body) → BodyFits cut columns height b → BodyWithin cut columns b → BodyFits false columns height b
body_fits cut columns height Unchanged h w = tt
body_fits cut columns height (Draws lines) h w = (lines_fit cut columns lines h.0 w, h.1)
body_fits cut columns height (Closes ending) h w = tt

all_fit : (cut : Bool) (columns height : ℕ) (frames : List Frame) → AllByRecursion (FrameFits cut columns height) frames → AllByRecursion (FrameWithin cut columns) frames
    → AllByRecursion (FrameFits false columns height) frames
all_fit cut columns height [] h w = tt
all_fit cut columns height (f ∷ fs) h w =
    (record { layout = h.0.layout; messages = lines_fit cut columns f.messages h.0.messages (w.0.messages (ap prints_whole h.0.layout)); body = body_fits cut columns height f.body h.0.body w.0.body }, all_fit cut columns height fs h.1 w.1)

-- the lines of each frame fit, whether they are cut or are asked to
pub frames_fit : (r : Renderer) (xs : List Rendering) (columns height : ℕ) → columns ≡ r.options.terminal_dimensions.0 → AllByRecursion (λ x. KeepsSize columns height x.input) xs
    → AllByRecursion (FrameFits r.options.output_is_terminal columns height) (drawn_frames r xs) → AllByRecursion (FrameFits false columns height) (drawn_frames r xs)
frames_fit r xs columns height e k h =
    all_fit r.options.output_is_terminal columns height (drawn_frames r xs) h
    (frames_within r.options.output_is_terminal columns height r xs k (record { terminal = refl; width = sym e }))
