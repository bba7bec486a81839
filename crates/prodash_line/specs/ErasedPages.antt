-- What a page shows after a frame that erases the rows that it writes on, whatever the page showed before, and however many columns its terminal
-- gives each character.
use Rattle.std.specs.Prelude.{◌≡◌, ◌<◌, Result, Ok, Err, OnOk, ◌≤◌, ◌^◌, ◌⊎◌, ℕ, ◌+◌, ◌-◌, Bool, true, false, if◌then◌else◌, List, [], ◌∷◌, ◌++◌, length, map, take, replicate}
use Rattle.std.specs.Char.{IsScalar}
use Rattle.std.specs.List.{AllByRecursion, flat_map}
use Rattle.prodash_base.specs.declared.refusal.Refusal.{Refusal}
use Rattle.prodash_line.specs.declared.render.line.draw.input.Answer.{Answer}
use Rattle.prodash_line.specs.declared.render.line.draw.input.Input.{Input}
use Rattle.prodash_line.specs.declared.render.line.page.sign.Sign.{Sign}
use Rattle.prodash_line.specs.Signs.{spelling}
use Rattle.prodash_line.specs.Lines.{Line, columns_of, line_text}
use Rattle.prodash_line.specs.DrawnLines.{erases_rows, prints_whole}
use Rattle.prodash_line.specs.Frames.{Body, Unchanged, Draws, Closes, Frame, body_lines, frame_signs, all_lines_after, printed_lines}
use Rattle.prodash_line.specs.CellRows.{blank_cells, char_columns, played, wrapped, text_columns, shown}
use Rattle.prodash_line.specs.declared.render.line.page.cell.Cell.{Cell}
use Rattle.prodash_line.specs.declared.render.line.page.cell.Cell.TheVariants.{Holds}
use Rattle.prodash_line.specs.Terminals.{Terminal, terminal_after}
use Rattle.prodash_line.specs.Reading.{AreProper}
use Rattle.prodash_line.specs.Renderer.{Renderer, remember, frame_at}
use Rattle.prodash_line.specs.Renderings.{Rendering, renderer_after}
use Rattle.prodash_line.specs.Screens.{ScreenState}

-- a page of this size: the cursor is in a row of its window, which is lower than 2^16 rows
pub record HasSize (size : ℕ × ℕ) (page : Terminal) : Type 0 where
  pub width : page.width ≡ size.0
  pub height : page.height ≡ size.1
  pub low : page.height < 2 ^ 16
  pub row : page.row < length page.rows
  pub window : length page.rows ≤ page.row + page.height

-- the row of a line: what its text leaves in a blank row, where no character goes to the next one
abbrev pub line_row : (ℕ → ℕ) → ℕ → Line → List Cell
line_row columns width line = played columns width (line_text line)

-- On a terminal that gives characters the columns that the renderer gives them, the row of a line has its characters, one in each cell, and
-- then blanks.
abbrev pub ShowsPlainly : ℕ → Line → Type 0
ShowsPlainly width line =
    line_row char_columns width line ≡ map (λ c. Holds c []) (line_text line) ++ blank_cells (width - columns_of line)

-- the rows of lines, one for each
abbrev pub line_rows : (ℕ → ℕ) → ℕ → List Line → List (List Cell)
line_rows columns width lines = map (line_row columns width) lines

-- the rows of messages: all that the text of each leaves, if they are written whole, and else one for each
abbrev pub message_rows : Bool → (ℕ → ℕ) → ℕ → List Line → List (List Cell)
message_rows true columns width messages = flat_map (λ line. wrapped columns width (line_text line)) messages
message_rows false columns width messages = line_rows columns width messages

-- The rows above the cursor's are as they were. From the cursor's on are the rows of the messages, whole or not, then those of these lines, then
-- blank rows, and there are no fewer rows than before. The cursor is at the beginning of the row below the messages, inside the window, and
-- characters wrap.
pub record ShowsErased (whole : Bool) (columns : ℕ → ℕ) (page : Terminal) (messages lines : List Line) (after : Terminal) : Type 0 where
  pub blanks : ℕ
  pub rows : after.rows ≡ take page.row page.rows ++ (message_rows whole columns page.width messages ++ (line_rows columns page.width lines ++ replicate blanks (blank_cells page.width)))
  pub kept : length page.rows ≤ length after.rows
  pub row : after.row ≡ page.row + length (message_rows whole columns page.width messages)
  pub column : after.column ≡ 0
  pub size : HasSize (page.width, page.height) after
  pub wraps : after.wraps ≡ true

-- A frame with this body: one that leaves the lines on screen prints no message and leaves the page. Any other shows its messages and the
-- lines that it draws.
abbrev pub ShowsBody : Bool → (ℕ → ℕ) → Terminal → List Line → Body → Terminal → Type 0
ShowsBody whole columns page messages Unchanged after = (messages ≡ []) × (after ≡ page)
ShowsBody whole columns page messages (Draws lines) after = ShowsErased whole columns page messages lines after
ShowsBody whole columns page messages (Closes ending) after = ShowsErased whole columns page messages [] after

-- the lines that a frame prints and draws
abbrev pub lines_of : Frame → List Line
lines_of f = f.messages ++ body_lines [] f.body

-- those of them that are cut: messages that are written whole are not
abbrev pub cut_lines_of : Frame → List Line
cut_lines_of f = (if prints_whole f.layout then [] else f.messages) ++ body_lines [] f.body

-- the characters of the lines are scalar values, as those of every `str` are
abbrev pub HasScalars : Frame → Type 0
HasScalars f = AllByRecursion (λ line. AllByRecursion IsScalar (line_text line)) (lines_of f)

-- A line for which the terminal takes no more columns than the renderer did shows whole: each character in its cells, and blanks behind the last.
abbrev pub ShowsWhole : (ℕ → ℕ) → ℕ → Line → Type 0
ShowsWhole columns width line =
    let n = text_columns columns (line_text line) in
    n ≤ columns_of line → line_row columns width line ≡ shown columns (line_text line) ++ blank_cells (width - n)

-- A whole message for which the terminal has enough columns shows in one row: each character in its cells, and blanks behind the last.
abbrev pub ShowsInOneRow : (ℕ → ℕ) → ℕ → Line → Type 0
ShowsInOneRow columns width line =
    let n = text_columns columns (line_text line) in
    n ≤ width → wrapped columns width (line_text line) ≡ (shown columns (line_text line) ++ blank_cells (width - n)) ∷ []

-- What is written is the spelling of signs, which are proper if the lines' characters are scalar values, so that reading it gives them. However
-- many columns a terminal gives each character, every page of this size shows the frame after the signs, and cut lines that are no wider than
-- the renderer took them for show whole, as whole messages do in one row that has room.
pub record ShowsAnywhere (size : ℕ × ℕ) (f : Frame) (old new : List ℕ) : Type 0 where
  pub signs : List Sign
  pub written : new ≡ old ++ spelling signs
  pub proper : HasScalars f → AreProper signs
  pub shows : (columns : ℕ → ℕ) (page : Terminal) → HasSize size page → ShowsBody (prints_whole f.layout) columns page f.messages f.body (terminal_after columns signs page)
  pub whole : (columns : ℕ → ℕ) → AllByRecursion (ShowsWhole columns size.0) (cut_lines_of f)
  pub one_row : (columns : ℕ → ℕ) → AllByRecursion (ShowsInOneRow columns size.0) f.messages

-- On success, if the renderer erases rows, every page of the terminal's size shows its frame of an input after what was written, whatever the
-- page showed before.
abbrev pub ErasesPages : Renderer → Input → ScreenState → Result Answer Refusal → ScreenState → Type 0
ErasesPages r input s result s' =
    let f = frame_at r input in
    OnOk result
    (erases_rows r.options ≡ true → ShowsAnywhere (remember r input).options.terminal_dimensions f s.bytes s'.bytes)

-- the same of a screen, given what a screen's state is
abbrev pub ErasesPagesOn : {S : Type 0} → (S → ScreenState) → Renderer → Input → S → Result Answer Refusal → S → Type 0
ErasesPagesOn state r input s result s' = ErasesPages r input (state s) result (state s')

-- the same of an input that is rendered
abbrev pub ErasesPagesOf : Renderer → ScreenState → Rendering → ScreenState → Type 0
ErasesPagesOf r s x s' = ErasesPages r x.input s x.result s'

-- what a page shows since it was as given: it is as it was, or it shows these messages and lines
abbrev pub ShowsSince : Bool → (ℕ → ℕ) → Terminal → List Line → List Line → Terminal → Type 0
ShowsSince whole columns page messages lines after =
    ((messages ≡ []) × (lines ≡ []) × (after ≡ page)) ⊎ ShowsErased whole columns page messages lines after

-- an accepted frame, with the size of the terminal that it is for, and its signs
pub record AcceptedFrame : Type 0 where
  pub size : ℕ × ℕ
  pub frame : Frame
  pub signs : List Sign

-- the frame of an input, if the input was accepted
abbrev pub accepted_by : Renderer → Input → Result Answer Refusal → List AcceptedFrame
accepted_by r input (Ok answer) =
    record { size = (remember r input).options.terminal_dimensions; frame = frame_at r input; signs = frame_signs r.widths (frame_at r input) } ∷ []
accepted_by r input (Err refusal) = []

-- the accepted frames of a list of inputs
abbrev pub accepted_frames : Renderer → List Rendering → List AcceptedFrame
accepted_frames r [] = []
accepted_frames r (x ∷ xs) = accepted_by r x.input x.result ++ accepted_frames (renderer_after r x) xs

-- these frames, without their sizes and signs
abbrev pub frames_in : List AcceptedFrame → List Frame
frames_in fs = map (λ f. f.frame) fs

-- the signs of these frames, one after another
abbrev pub signs_in_turn : List AcceptedFrame → List Sign
signs_in_turn fs = flat_map (λ f. f.signs) fs

-- Frames written one after another. However many columns a terminal gives each character, every page of the size that each of them is for is as
-- it was afterwards, if each left it; or it shows the rows above the cursor's as they were, then all messages that the frames print, whole or not,
-- then the lines drawn last, then blank rows.
abbrev pub ShowInTurn : Bool → List AcceptedFrame → Type 0
ShowInTurn whole fs =
    (columns : ℕ → ℕ) (page : Terminal) → AllByRecursion (λ f. HasSize f.size page) fs
    → ShowsSince whole columns page (printed_lines (frames_in fs)) (all_lines_after [] (frames_in fs)) (terminal_after columns (signs_in_turn fs) page)

-- The frames are written one after another; what follows them is a part of a frame during which the screen broke, if it did.
abbrev pub WritesInTurn : List AcceptedFrame → ScreenState → ScreenState → Type 0
WritesInTurn fs s s' =
    (rest : List ℕ) × (s'.bytes ≡ s.bytes ++ (spelling (signs_in_turn fs) ++ rest)) × (s'.broken ≡ false → rest ≡ [])

-- The accepted frames of a list of inputs are written, and their signs are proper if the lines' characters are scalar values, so that reading them
-- gives the signs. Any of them that follow one another show in turn: so from each frame on, whatever the page shows before it, until a resize sets
-- another size.
pub record ErasesInTurn (r : Renderer) (xs : List Rendering) (s s' : ScreenState) : Type 0 where
  pub written : WritesInTurn (accepted_frames r xs) s s'
  pub proper : AllByRecursion HasScalars (frames_in (accepted_frames r xs)) → AreProper (signs_in_turn (accepted_frames r xs))
  pub shows : (before some after : List AcceptedFrame) → accepted_frames r xs ≡ before ++ (some ++ after) → ShowInTurn r.options.whole_messages some
