-- Frames whose first and last signs change nothing on a page, and whose styles have codes, as those of a renderer do.
use Rattle.std.proofs.Common.{ℕ, ◌-◌, Bool, true, false, cond, List, [], ◌∷◌, ◌++◌, length, Some, None}
use Rattle.std.specs.Prelude.{⊤}
use Rattle.std.specs.List.{AllByRecursion}
use Rattle.prodash_base.specs.Rows.{PathRow}
use Rattle.prodash_line.specs.declared.render.line.draw.input.Input.{Input}
use Rattle.prodash_line.specs.declared.render.line.draw.input.Input.TheVariants.{Tick, Resize, Quit}
use Rattle.prodash_line.specs.declared.render.line.page.sign.Sign.{Sign}
use Rattle.prodash_line.specs.declared.render.line.page.sign.Sign.TheVariants.{CarriageReturn, EraseLine, HideCursor, ShowCursor}
use Rattle.prodash_line.specs.Frames.{Body, Unchanged, Draws, Closes, Frame}
use Rattle.prodash_line.specs.declared.render.line.draw.action.Action.{Action}
use Rattle.prodash_line.specs.declared.render.line.draw.action.Action.TheVariants.{Leave, Redraw, Erase, Close}
use Rattle.prodash_line.specs.Renderer.{Renderer, Drawing, hides_cursor, is_cursor_hidden, erases_at_end, ending_of, drawn_rows, fitting_rows, drawn_lines, latest_rows, remember, moment_of, drawing_at, action_at, printed_at, body_of, frame_at}
use Rattle.prodash_line.specs.Renderings.{Rendering, renderer_after, attempts_of, drawn_frames}
use Rattle.prodash_line.specs.ProgressRows.{times_at, row_lines, more_lines}
use Rattle.prodash_line.proofs.Lists.{AllByRecursion-append}
use Rattle.prodash_line.proofs.Renderings.{frames_after}
use Rattle.prodash_line.proofs.StyledLines.{HasCodes, HaveCodes, rows_have, more_have, messages_have}
use Rattle.prodash_line.proofs.UnseenSigns.{IsUnseen}

-- a sign that changes nothing if the cursor is at the beginning of a blank row
abbrev pub IsEnding : Sign → Type 0
IsEnding CarriageReturn = ⊤
IsEnding EraseLine = ⊤
IsEnding s = IsUnseen s

abbrev pub EndsOrderly : Body → Type 0
EndsOrderly Unchanged = ⊤
EndsOrderly (Draws lines) = HaveCodes lines
EndsOrderly (Closes ending) = AllByRecursion IsEnding ending

-- a frame that opens with signs that a page doesn't show, ends with such signs, and whose styles have codes
pub record IsOrderly (f : Frame) : Type 0 where
  pub opening : AllByRecursion IsUnseen f.opening
  pub messages : HaveCodes f.messages
  pub body : EndsOrderly f.body

-- a frame that hides the cursor or not
opens : (hides : Bool) → AllByRecursion IsUnseen (cond hides (HideCursor ∷ []) [])
opens true = (tt, tt)
opens false = tt

-- and shows it or not, and erases a row or not
ends : (hidden erases : Bool) → AllByRecursion IsEnding (cond hidden (ShowCursor ∷ []) [] ++ cond erases (EraseLine ∷ CarriageReturn ∷ []) [])
ends true true = (tt, (tt, (tt, tt)))
ends true false = (tt, tt)
ends false true = (tt, (tt, tt))
ends false false = tt

closes : (r : Renderer) → AllByRecursion IsEnding (ending_of r)
closes r = ends (is_cursor_hidden r) (erases_at_end r.options)

lines_have : (r : Renderer) (at : ℕ) (rows : List PathRow) → HaveCodes (drawn_lines r at rows)
lines_have r at rows =
    let more = length (drawn_rows r at rows) - length (fitting_rows r at rows) in
    AllByRecursion-append HasCodes (row_lines r.options r.midpoint (times_at r.timer at) (fitting_rows r at rows)) (more_lines r.options more)
    (rows_have r.options r.midpoint (times_at r.timer at) (fitting_rows r at rows)) (more_have r.options more)

-- whatever a frame does after its messages
body_ends : (action : Action) (drawing : Drawing) (r : Renderer) → HaveCodes drawing.lines → EndsOrderly (body_of action drawing (ending_of r))
body_ends Leave drawing r h = tt
body_ends Redraw drawing r h = h
body_ends Erase drawing r h = tt
body_ends Close drawing r h = closes r

printed_have : (r : Renderer) (input : Input) → HaveCodes (printed_at r input)
printed_have r (Tick at show (Some seen)) = messages_have r.options r.origin_widths seen.1
printed_have r (Tick at show None) = tt
printed_have r (Resize at show columns height) = tt
printed_have r (Quit at) = tt

-- each frame of a renderer
pub orderly_at : (r : Renderer) (input : Input) → IsOrderly (frame_at r input)
orderly_at r input =
    let r' = remember r input in
    record {
      opening = opens (hides_cursor r);
      messages = printed_have r input;
      body = body_ends (action_at r input) (drawing_at r input) r (lines_have r' (moment_of input) (latest_rows r'.last_rows));
    }

-- the frames of a list of inputs
pub orderly_frames : (r : Renderer) (xs : List Rendering) → AllByRecursion IsOrderly (drawn_frames r xs)
orderly_frames r [] = tt
orderly_frames r (x ∷ xs) = frames_after IsOrderly (frame_at r x.input) x.result (attempts_of (renderer_after r x) xs) (orderly_at r x.input) (orderly_frames (renderer_after r x) xs)
