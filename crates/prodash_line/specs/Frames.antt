-- Frames: messages over the lines on screen, and then perhaps lines drawn anew.
use Rattle.std.specs.Prelude.{ℕ, zero, suc, ◌+◌, ◌-◌, min, max, nat_lt, Bool, true, false, not, ◌&&◌, if◌then◌else◌, List, [], ◌∷◌, ◌++◌, length, map, drop, replicate, Option, Some, None}
use Rattle.std.specs.List.{flat_map}
use Rattle.prodash_line.specs.Lines.{Piece, Line, spaces, columns_of}
use Rattle.prodash_line.specs.declared.render.line.draw.layout.Layout.{Layout}
use Rattle.prodash_line.specs.declared.render.line.draw.layout.Layout.TheVariants.{Overwriting, Erasing}
use Rattle.prodash_line.specs.declared.render.line.page.sign.Sign.{Sign}
use Rattle.prodash_line.specs.declared.render.line.page.style.Style.{Style}
use Rattle.prodash_line.specs.declared.render.line.page.sign.Sign.TheVariants.{Char, LineFeed, CarriageReturn, Up, EraseLine, EraseBelow, NoWrap, Wrap, BeginUpdate, EndUpdate, Open, Reset}

-- the signs of a text in a style; an empty text has none
abbrev pub styled_signs : Option Style → List ℕ → List Sign
styled_signs None text = map Char text
styled_signs (Some style) [] = []
styled_signs (Some style) (c ∷ text) = Open style ∷ (map Char (c ∷ text) ++ Reset ∷ [])

-- the signs of a piece
abbrev pub piece_signs : Piece → List Sign
piece_signs p = styled_signs p.style p.text

-- the signs of a line, without a line feed
abbrev pub line_signs : Line → List Sign
line_signs line = flat_map piece_signs line

-- a line over another one of this width: the line, spaces up to where the other one ended, a line feed
abbrev pub overwrite_line : ℕ → Line → List Sign
overwrite_line width line = line_signs line ++ (piece_signs (spaces (width - columns_of line)) ++ LineFeed ∷ [])

-- the width of the first line on screen, by the widths of all; 0 if there is none
abbrev pub first_width : List ℕ → ℕ
first_width [] = 0
first_width (width ∷ widths) = width

-- what the row of a line begins with
abbrev pub row_start : Layout → List Sign
row_start Overwriting = []
row_start (Erasing height synchronized whole) = EraseLine ∷ []

-- the widths of the lines on screen that lines are written over: of all, or of none in rows that are erased first
abbrev pub covered : Layout → List ℕ → List ℕ
covered Overwriting widths = widths
covered (Erasing height synchronized whole) widths = []

-- the lines, each over the line on screen in its row, of which these are the widths
abbrev pub lines_over : Layout → List ℕ → List Line → List Sign
lines_over layout widths [] = []
lines_over layout widths (line ∷ lines) = row_start layout ++ (overwrite_line (first_width widths) line ++ lines_over layout (drop 1 widths) lines)

-- how the lines of messages are laid out: whole ones are written on rows that are blank
abbrev pub message_layout : Layout → Layout
message_layout Overwriting = Overwriting
message_layout (Erasing height synchronized whole) = if whole then Overwriting else Erasing height synchronized whole

-- lines over those on screen, in rows that aren't erased first
abbrev pub overwrite : List ℕ → List Line → List Sign
overwrite widths lines = lines_over Overwriting widths lines

-- up n rows, if n isn't 0
abbrev pub cursor_up : ℕ → List Sign
cursor_up zero = []
cursor_up (suc n) = Up (min (suc n) 65535) ∷ []

-- n rows that are erased
abbrev pub erased_rows : ℕ → List Sign
erased_rows zero = []
erased_rows (suc n) = EraseLine ∷ LineFeed ∷ erased_rows n

-- how many rows are erased below these lines if n lines are on screen: one for each that is left over, but none in or below the window's last row
abbrev pub left_over : ℕ → ℕ → ℕ → ℕ
left_over height n lines = min (n - lines) (height - 1 - lines)

-- no character wraps from here on, if this is so
abbrev pub unwrapped : Bool → List Sign
unwrapped it = if it then NoWrap ∷ [] else []

-- what comes before drawn lines: no character wraps, after messages that may have
abbrev pub lines_start : Layout → List Sign
lines_start Overwriting = []
lines_start (Erasing height synchronized whole) = unwrapped whole

-- the lines over those on screen; then spaces over each line on screen that is left over, or its row and all below erased; then back up
abbrev pub redraw : Layout → List ℕ → List Line → List Sign
redraw Overwriting widths lines =
    overwrite widths (lines ++ replicate (length widths - length lines) []) ++ cursor_up (max (length lines) (length widths))
redraw (Erasing height synchronized whole) widths lines =
    let rest = left_over height (length widths) (length lines) in
    lines_start (Erasing height synchronized whole)
    ++ (lines_over (Erasing height synchronized whole) [] lines ++ (erased_rows rest ++ EraseBelow ∷ cursor_up (length lines + rest)))

-- what a frame does after its messages
pub data Body : Type 0 where
  -- it leaves the lines on screen
  Unchanged : Body
  -- it draws these lines in their place
  Draws : List Line → Body
  -- it blanks them, goes back up, and ends with these signs
  Closes : List Sign → Body

-- how it is laid out, what it begins with, the lines of its messages, and its body
pub record Frame : Type 0 where
  pub layout : Layout
  pub opening : List Sign
  pub messages : List Line
  pub body : Body

-- the signs of a body, over the lines that are left on screen
abbrev pub body_signs : Layout → List ℕ → Body → List Sign
body_signs layout widths Unchanged = []
body_signs layout widths (Draws lines) = redraw layout widths lines
body_signs layout widths (Closes ending) = redraw layout widths [] ++ ending

-- what begins a frame that is a synchronized update
abbrev pub update_start : Bool → List Sign
update_start synchronized = if synchronized then BeginUpdate ∷ [] else []

-- and what ends it
abbrev pub update_end : Bool → List Sign
update_end synchronized = if synchronized then EndUpdate ∷ [] else []

-- a frame that erases rows begins at the beginning of the cursor's row, and writes without wrapping, unless messages are written whole
abbrev pub erasing_start : Bool → Bool → List Sign
erasing_start synchronized whole = update_start synchronized ++ CarriageReturn ∷ unwrapped (not whole)

-- and lets characters wrap again at its end
abbrev pub erasing_end : Bool → List Sign
erasing_end synchronized = Wrap ∷ update_end synchronized

-- what a frame begins with after its opening: nothing if it leaves the lines on screen
abbrev pub frame_start : Layout → Body → List Sign
frame_start Overwriting body = []
frame_start (Erasing height synchronized whole) Unchanged = []
frame_start (Erasing height synchronized whole) (Draws lines) = erasing_start synchronized whole
frame_start (Erasing height synchronized whole) (Closes ending) = erasing_start synchronized whole

-- the rows below the cursor's are blanked, if the window has any: not as its first row, since some terminals keep what is erased there
abbrev pub blank_below : ℕ → List Sign
blank_below height = if nat_lt 1 height then LineFeed ∷ EraseBelow ∷ Up 1 ∷ [] else []

-- are there lines?
abbrev pub has_lines : List Line → Bool
has_lines [] = false
has_lines (line ∷ lines) = true

-- what messages begin with, if there are any and they are written whole: characters wrap, and the rows that they may go on in are blanked
abbrev pub messages_start : Layout → Bool → List Sign
messages_start Overwriting some = []
messages_start (Erasing height synchronized whole) some = if some && whole then Wrap ∷ EraseLine ∷ blank_below height else []

-- what a frame begins with, up to its messages
abbrev pub frame_begin : Layout → List Line → Body → List Sign
frame_begin layout messages body = frame_start layout body ++ messages_start layout (has_lines messages)

-- and what it ends with
abbrev pub frame_end : Layout → Body → List Sign
frame_end Overwriting body = []
frame_end (Erasing height synchronized whole) Unchanged = []
frame_end (Erasing height synchronized whole) (Draws lines) = erasing_end synchronized
frame_end (Erasing height synchronized whole) (Closes ending) = erasing_end synchronized

-- the signs of a frame, by the widths of the lines on screen before it
abbrev pub frame_signs : List ℕ → Frame → List Sign
frame_signs widths f =
    f.opening
    ++ (frame_begin f.layout f.messages f.body
    ++ (lines_over (message_layout f.layout) (covered f.layout widths) f.messages
    ++ (body_signs f.layout (drop (length f.messages) widths) f.body ++ frame_end f.layout f.body)))

-- the lines on screen after a body, by those before it
abbrev pub body_lines : List Line → Body → List Line
body_lines lines Unchanged = lines
body_lines lines (Draws drawn) = drawn
body_lines lines (Closes ending) = []

-- the lines on screen after a frame: those drawn last, without as many from the first on as messages were printed over them since
abbrev pub lines_after : List Line → Frame → List Line
lines_after lines f = body_lines (drop (length f.messages) lines) f.body

-- the width of each line
abbrev pub widths_of : List Line → List ℕ
widths_of lines = map columns_of lines

-- the signs of a list of frames
abbrev pub signs_of : List Line → List Frame → List Sign
signs_of lines [] = []
signs_of lines (f ∷ fs) = frame_signs (widths_of lines) f ++ signs_of (lines_after lines f) fs

-- the lines on screen after a list of frames
abbrev pub all_lines_after : List Line → List Frame → List Line
all_lines_after lines [] = lines
all_lines_after lines (f ∷ fs) = all_lines_after (lines_after lines f) fs

-- the lines of all messages that the frames print
abbrev pub printed_lines : List Frame → List Line
printed_lines fs = flat_map (λ f. f.messages) fs
