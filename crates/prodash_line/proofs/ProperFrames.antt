-- The signs of frames whose lines have proper characters are proper, so their bytes are read as them.
use Rattle.std.proofs.Common.{◌≡◌, true, false, Bool, cond, nat_lt, ℕ, zero, suc, ◌+◌, ◌-◌, List, [], ◌∷◌, Option, Some, None, length, map, drop, refl, arith}
use Rattle.std.specs.Prelude.{max, replicate, ◌&&◌, not}
use Rattle.std.specs.List.{AllByRecursion}
use Rattle.std.specs.Char.{is_control}
use Rattle.std.proofs.lemmas.Bool.Decides.{nat_tests}
use Rattle.unicode_width.specs.Width.{char_width}
use Rattle.prodash_line.specs.declared.render.line.page.sign.Sign.{Sign}
use Rattle.prodash_line.specs.declared.render.line.page.sign.Sign.TheVariants.{Char, LineFeed, CarriageReturn, Up, EraseLine, EraseBelow, NoWrap, Wrap, BeginUpdate, EndUpdate, Reset}
use Rattle.prodash_line.specs.declared.render.line.draw.layout.Layout.{Layout}
use Rattle.prodash_line.specs.declared.render.line.draw.layout.Layout.TheVariants.{Overwriting, Erasing}
use Rattle.prodash_line.specs.declared.render.line.page.style.Style.{Style}
use Rattle.prodash_line.specs.Signs.{IsProper}
use Rattle.prodash_line.specs.Lines.{Piece, Line, spaces, columns_of}
use Rattle.prodash_line.specs.Frames.{styled_signs, piece_signs, line_signs, overwrite_line, first_width, row_start, covered, lines_over, cursor_up, erased_rows, left_over, redraw, unwrapped, update_start, update_end, erasing_start, message_layout, messages_start, blank_below, has_lines, frame_start, frame_begin, frame_end, widths_of, Body, Frame, body_lines, body_signs, frame_signs, lines_after, signs_of}
use Rattle.prodash_line.specs.Reading.{AreProper}
use Rattle.prodash_line.specs.Fits.{IsPlainChar, IsPlainPiece, IsPlain, LineFits, LinesFit, BodyFits, FrameFits}
use Rattle.prodash_line.proofs.Lists.{AllByRecursion-append, AllByRecursion-replicate, AllByRecursion-map}
use Rattle.prodash_line.proofs.StyledLines.{HasCode, HasCodes, HaveCodes}
use Rattle.prodash_line.proofs.UnseenSigns.{IsUnseen, unseen_proper}
use Rattle.prodash_line.proofs.OrderlyFrames.{IsEnding, EndsOrderly, IsOrderly}

-- a character that is one column wide is no control character
no_control : (c : ℕ) → char_width false c ≡ Some 1 → is_control c ≡ false
unfolding char_width
no_control c e = grind (arith, nat_tests, e)

plain_proper : (c : ℕ) → IsPlainChar c → IsProper (Char c)
plain_proper c h = (h.scalar, no_control c h.width)

-- the characters of a text are proper
abbrev pub IsProperText : List ℕ → Type 0
IsProperText text = AllByRecursion (λ c. IsProper (Char c)) text

-- and of each text of a line
abbrev pub IsProperLine : Line → Type 0
IsProperLine line = AllByRecursion (λ p. IsProperText p.text) line

-- as those of a plain line are
piece_plain : (p : Piece) → IsPlainPiece p → IsProperText p.text
piece_plain p h = AllByRecursion-map IsPlainChar (λ c. IsProper (Char c)) p.text plain_proper h.each

line_plain : (line : Line) → IsPlain line → IsProperLine line
line_plain line h = AllByRecursion-map IsPlainPiece (λ p. IsProperText p.text) line piece_plain h.pieces

-- the messages and the drawn lines of a frame are such lines
pub record HasProperLines (f : Frame) : Type 0 where
  pub messages : AllByRecursion IsProperLine f.messages
  pub drawn : AllByRecursion IsProperLine (body_lines [] f.body)

-- of proper characters
chars_proper : (text : List ℕ) → IsProperText text → AreProper (map Char text)
chars_proper [] h = tt
chars_proper (c ∷ cs) h = (h.0, chars_proper cs h.1)

-- of a text in a style
styled_proper : (style : Option Style) (text : List ℕ) → IsProperText text → HasCode style → AreProper (styled_signs style text)
styled_proper None text h code = chars_proper text h
styled_proper (Some style) [] h code = tt
styled_proper (Some style) (c ∷ text) h code = (code, AllByRecursion-append IsProper (map Char (c ∷ text)) (Reset ∷ []) (chars_proper (c ∷ text) h) (tt, tt))

-- of a line
line_proper : (line : Line) → IsProperLine line → HasCodes line → AreProper (line_signs line)
line_proper [] h codes = tt
line_proper (p ∷ ps) h codes =
    AllByRecursion-append IsProper (piece_signs p) (line_signs ps)
    (styled_proper p.style p.text h.0 codes.0)
    (line_proper ps h.1 codes.1)

-- of spaces
spaces_proper : (n : ℕ) → AreProper (piece_signs (spaces n))
spaces_proper n = chars_proper (replicate n 32) (AllByRecursion-replicate (λ c. IsProper (Char c)) n 32 (refl, refl))

-- of a line over another one
overwrite_line_proper : (width : ℕ) (line : Line) → IsProperLine line → HasCodes line → AreProper (overwrite_line width line)
overwrite_line_proper width line h codes = AllByRecursion-append IsProper (line_signs line) _ (line_proper line h codes)
    (AllByRecursion-append IsProper (piece_signs (spaces (width - columns_of line))) (LineFeed ∷ []) (spaces_proper (width - columns_of line)) (tt, tt))

-- of what a row begins with
row_start_proper : (layout : Layout) → AreProper (row_start layout)
row_start_proper Overwriting = tt
row_start_proper (Erasing height synchronized whole) = (tt, tt)

-- of lines
lines_proper : (layout : Layout) (widths : List ℕ) (lines : List Line) → AllByRecursion IsProperLine lines → HaveCodes lines → AreProper (lines_over layout widths lines)
lines_proper layout widths [] h codes = tt
lines_proper layout widths (l ∷ ls) h codes = AllByRecursion-append IsProper (row_start layout) _ (row_start_proper layout)
    (AllByRecursion-append IsProper (overwrite_line (first_width widths) l) (lines_over layout (drop 1 widths) ls) (overwrite_line_proper (first_width widths) l h.0 codes.0)
    (lines_proper layout (drop 1 widths) ls h.1 codes.1))

-- of up
cursor_up_proper : (n : ℕ) → AreProper (cursor_up n)
cursor_up_proper zero = tt
cursor_up_proper (suc n) = ((omega arith, omega arith), tt)

-- of erased rows
erased_proper : (n : ℕ) → AreProper (erased_rows n)
erased_proper zero = tt
erased_proper (suc n) = (tt, (tt, erased_proper n))

-- of some signs or none
either_proper : (b : Bool) (signs : List Sign) → AreProper signs → AreProper (cond b signs [])
either_proper true signs h = h
either_proper false signs h = tt

-- of lines drawn anew
redraw_proper : (layout : Layout) (widths : List ℕ) (lines : List Line) → AllByRecursion IsProperLine lines → HaveCodes lines → AreProper (redraw layout widths lines)
redraw_proper Overwriting widths lines h codes =
    let n = length widths - length lines in
    AllByRecursion-append IsProper _ _
    (lines_proper Overwriting widths _ (AllByRecursion-append IsProperLine lines _ h (AllByRecursion-replicate IsProperLine n [] tt))
    (AllByRecursion-append HasCodes lines _ codes (AllByRecursion-replicate HasCodes n [] tt)))
    (cursor_up_proper (max (length lines) (length widths)))
redraw_proper (Erasing height synchronized whole) widths lines h codes =
    let rest = left_over height (length widths) (length lines) in
    let layout = Erasing height synchronized whole in
    AllByRecursion-append IsProper (unwrapped whole) _ (either_proper whole (NoWrap ∷ []) (tt, tt))
    (AllByRecursion-append IsProper (lines_over layout [] lines) _ (lines_proper layout [] lines h codes)
    (AllByRecursion-append IsProper (erased_rows rest) (EraseBelow ∷ cursor_up (length lines + rest)) (erased_proper rest) (tt, cursor_up_proper (length lines + rest))))

-- of signs that end a frame
ending_proper : (s : Sign) → IsEnding s → IsProper s
ending_proper CarriageReturn h = tt
ending_proper EraseLine h = tt
ending_proper s h = unseen_proper s h

-- of what a frame does after its messages
body_proper : (layout : Layout) (widths : List ℕ) (b : Body) → AllByRecursion IsProperLine (body_lines [] b) → EndsOrderly b → AreProper (body_signs layout widths b)
body_proper layout widths Body.Unchanged h o = tt
body_proper layout widths (Body.Draws lines) h o = redraw_proper layout widths lines h o
body_proper layout widths (Body.Closes ending) h o =
    AllByRecursion-append IsProper (redraw layout widths []) ending (redraw_proper layout widths [] tt tt) (AllByRecursion-map IsEnding IsProper ending ending_proper o)

-- of what ends an update
update_end_proper : (synchronized : Bool) → AreProper (update_end synchronized)
update_end_proper synchronized = either_proper synchronized (EndUpdate ∷ []) (tt, tt)

-- of what begins a frame that erases rows
erasing_start_proper : (synchronized whole : Bool) → AreProper (erasing_start synchronized whole)
erasing_start_proper synchronized whole =
    AllByRecursion-append IsProper (update_start synchronized) _ (either_proper synchronized (BeginUpdate ∷ []) (tt, tt))
    (tt, either_proper (not whole) (NoWrap ∷ []) (tt, tt))

-- of what messages begin with
messages_start_proper : (layout : Layout) (some : Bool) → AreProper (messages_start layout some)
messages_start_proper Overwriting some = tt
messages_start_proper (Erasing height synchronized whole) some =
    either_proper (some && whole) (Wrap ∷ EraseLine ∷ blank_below height)
    (tt, (tt, either_proper (nat_lt 1 height) (LineFeed ∷ EraseBelow ∷ Up 1 ∷ []) (tt, (tt, ((omega arith, omega arith), tt)))))

-- of what a frame begins with
start_proper : (layout : Layout) (b : Body) → AreProper (frame_start layout b)
start_proper Overwriting b = tt
start_proper (Erasing height synchronized whole) Body.Unchanged = tt
start_proper (Erasing height synchronized whole) (Body.Draws lines) = erasing_start_proper synchronized whole
start_proper (Erasing height synchronized whole) (Body.Closes ending) = erasing_start_proper synchronized whole

-- and of what it ends with
end_proper : (layout : Layout) (b : Body) → AreProper (frame_end layout b)
end_proper Overwriting b = tt
end_proper (Erasing height synchronized whole) Body.Unchanged = tt
end_proper (Erasing height synchronized whole) (Body.Draws lines) = (tt, update_end_proper synchronized)
end_proper (Erasing height synchronized whole) (Body.Closes ending) = (tt, update_end_proper synchronized)

-- of a frame
pub frame_proper : (widths : List ℕ) (f : Frame) → HasProperLines f → IsOrderly f → AreProper (frame_signs widths f)
frame_proper widths f h o = AllByRecursion-append IsProper f.opening _ (AllByRecursion-map IsUnseen IsProper f.opening unseen_proper o.opening)
    (AllByRecursion-append IsProper (frame_begin f.layout f.messages f.body) _
    (AllByRecursion-append IsProper (frame_start f.layout f.body) _ (start_proper f.layout f.body) (messages_start_proper f.layout (has_lines f.messages)))
    (AllByRecursion-append IsProper (lines_over (message_layout f.layout) (covered f.layout widths) f.messages) _ (lines_proper (message_layout f.layout) (covered f.layout widths) f.messages h.messages o.messages)
    (AllByRecursion-append IsProper (body_signs f.layout (drop (length f.messages) widths) f.body) _
    (body_proper f.layout (drop (length f.messages) widths) f.body h.drawn o.body) (end_proper f.layout f.body))))

-- lines that fit are plain, so their characters are proper
lines_plain : (columns : ℕ) (lines : List Line) → LinesFit false columns lines → AllByRecursion IsProperLine lines
lines_plain columns lines h = AllByRecursion-map (LineFits false columns) IsProperLine lines (λ line fits. line_plain line fits.plain) h

drawn_plain : (columns height : ℕ) (b : Body) → BodyFits false columns height b → AllByRecursion IsProperLine (body_lines [] b)
drawn_plain columns height Body.Unchanged h = tt
drawn_plain columns height (Body.Draws lines) h = lines_plain columns lines h.0
drawn_plain columns height (Body.Closes ending) h = tt

-- of a list of frames
pub frames_proper : (columns height : ℕ) (lines : List Line) (fs : List Frame) → AllByRecursion (FrameFits false columns height) fs → AllByRecursion IsOrderly fs → AreProper (signs_of lines fs)
frames_proper columns height lines [] h o = tt
frames_proper columns height lines (f ∷ fs) h o =
    AllByRecursion-append IsProper (frame_signs (widths_of lines) f) _
    (frame_proper (widths_of lines) f (record { messages = lines_plain columns f.messages h.0.messages; drawn = drawn_plain columns height f.body h.0.body }) o.0)
    (frames_proper columns height (lines_after lines f) fs h.1 o.1)
