-- Lines over those on screen: their bytes are the spelling of a frame's signs.
use Rattle.std.proofs.Common.{◌≡◌, ℕ, nat_eq, Bool, true, false, suc, ◌+◌, ◌-◌, ◌<◌, ◌≤◌, List, [], ◌∷◌, ◌++◌, length, drop, replicate, refl, sym, ap, ◌∙◌, append_assoc, append-nil, arith, ⊎_elim, get_or, drop-cons, length-drop}
use Rattle.std.specs.Prelude.{min, max, not}
use Rattle.std.proofs.lemmas.Bool.{cases_lt}
use Rattle.std.proofs.lemmas.Bool.Decides.{nat_tests}
use Rattle.std.proofs.lemmas.List.{drop-drop, drop_all}
use Rattle.prodash_base.specs.declared.messages.Message.{Message}
use Rattle.prodash_line.specs.declared.render.line.page.sign.Sign.{Sign}
use Rattle.prodash_line.specs.declared.render.line.page.sign.Sign.TheVariants.{LineFeed, EraseLine}
use Rattle.prodash_line.specs.declared.render.line.draw.layout.Layout.{Layout}
use Rattle.prodash_line.specs.declared.render.line.draw.layout.Layout.TheVariants.{Overwriting, Erasing}
use Rattle.prodash_line.specs.Signs.{spelling_of, spelling}
use Rattle.prodash_line.specs.Lines.{Line, spaces, columns_of}
use Rattle.prodash_line.specs.Frames.{Frame, line_signs, piece_signs, row_start, covered, overwrite_line, first_width, lines_over, overwrite, cursor_up, erased_rows, redraw, body_signs, unwrapped, message_layout, has_lines, messages_start, frame_start, frame_begin, frame_end, frame_signs}
use Rattle.prodash_line.specs.declared.render.line.draw.input.Options.{Options}
use Rattle.prodash_line.specs.MessageLines.{drawn_message_line, message_lines, origin_width, widths_of_origins, greatest_width}
use Rattle.prodash_line.specs.plumbing.Writing.{line_bytes}
use Rattle.prodash_line.specs.plumbing.OverwriteBytes.{row_end, overwrite_line_bytes, lines_bytes, blank_bytes}
use Rattle.prodash_line.specs.plumbing.FrameWriting.{action_start, action_end, redraw_end}
use Rattle.prodash_line.specs.Renderer.{Drawing, body_of}
use Rattle.prodash_line.specs.declared.render.line.draw.action.Action.{Action}
use Rattle.prodash_line.specs.declared.render.line.draw.action.Action.TheVariants.{Leave, Redraw, Erase, Close}
use Rattle.prodash_line.proofs.Columns.{printable-spaces}
use Rattle.prodash_line.proofs.MessageLines.{greatest_width-append}
use Rattle.prodash_line.proofs.Written.{spelling-append, line_bytes-printable}

-- ---- one line

spelling-spaces : (n : ℕ) → spelling (piece_signs (spaces n)) ≡ replicate n 32
unfolding line_bytes
spelling-spaces n = ap spelling (sym (append-nil (piece_signs (spaces n)))) ∙ line_bytes-printable (replicate n 32) (printable-spaces n)

spelling-row_end : (n : ℕ) → spelling (piece_signs (spaces n) ++ LineFeed ∷ []) ≡ row_end n
spelling-row_end n = spelling-append (piece_signs (spaces n)) (LineFeed ∷ []) ∙ ap (λ t. t ++ 10 ∷ []) (spelling-spaces n)

spelling-overwrite_line : (width : ℕ) (line : Line) → spelling (overwrite_line width line) ≡ overwrite_line_bytes width line
unfolding line_bytes
spelling-overwrite_line width line =
    spelling-append (line_signs line) (piece_signs (spaces (width - columns_of line)) ++ LineFeed ∷ []) ∙ ap (λ t. line_bytes line ++ t) (spelling-row_end (width - columns_of line))

-- ---- lines

pub overwritten : (layout : Layout) (widths : List ℕ) (lines : List Line) → lines_bytes layout widths lines ≡ spelling (lines_over layout widths lines)
overwritten layout widths [] = refl
overwritten layout widths (line ∷ lines) =
    ap (λ t. spelling (row_start layout) ++ t)
    (ap (λ t. t ++ lines_bytes layout (drop 1 widths) lines) (sym (spelling-overwrite_line (first_width widths) line))
    ∙ ap (λ t. spelling (overwrite_line (first_width widths) line) ++ t) (overwritten layout (drop 1 widths) lines)
    ∙ sym (spelling-append (overwrite_line (first_width widths) line) (lines_over layout (drop 1 widths) lines)))
    ∙ sym (spelling-append (row_start layout) (overwrite_line (first_width widths) line ++ lines_over layout (drop 1 widths) lines))

blanks_overwritten : (widths : List ℕ) → blank_bytes widths ≡ lines_bytes Overwriting widths (replicate (length widths) [])
blanks_overwritten [] = refl
blanks_overwritten (width ∷ widths) = ap (λ t. overwrite_line_bytes width [] ++ t) (blanks_overwritten widths)

pub lines_bytes-append : (layout : Layout) (widths : List ℕ) (xs ys : List Line)
    → lines_bytes layout widths (xs ++ ys) ≡ lines_bytes layout widths xs ++ lines_bytes layout (drop (length xs) widths) ys
lines_bytes-append layout widths [] ys = refl
lines_bytes-append layout widths (x ∷ xs) ys =
    let start = spelling (row_start layout) in
    let here = overwrite_line_bytes (first_width widths) x in
    let others = lines_bytes layout (drop 1 widths) xs in
    let rest = lines_bytes layout (drop (length (x ∷ xs)) widths) ys in
    ap (λ t. start ++ (here ++ t))
    (lines_bytes-append layout (drop 1 widths) xs ys
    ∙ ap (λ (w : List ℕ). others ++ lines_bytes layout w ys)
    (drop-drop (length xs) 1 widths ∙ ap (λ (n : ℕ). drop n widths) (let e : 1 + length xs ≡ suc (length xs) = omega arith in e)))
    ∙ ap (λ t. start ++ t) (sym (append_assoc here others rest))
    ∙ sym (append_assoc start (here ++ others) rest)

-- to drop as many as there are is to drop all
pub drop_min : (k : ℕ) (widths : List ℕ) → drop (min k (length widths)) widths ≡ drop k widths
drop_min k widths = ⊎_elim
    (λ (few : k < length widths). ap (λ n. drop n widths) (let e : min k (length widths) ≡ k = omega arith in e))
    (λ (many : length widths ≤ k). drop_all (min k (length widths)) widths (omega arith) ∙ sym (drop_all k widths many))
    (cases_lt k (length widths))

redraw_bytes : (widths : List ℕ) (lines : List Line)
    → spelling (redraw Overwriting widths lines) ≡ lines_bytes Overwriting widths lines ++ (blank_bytes (drop (length lines) widths) ++ spelling (cursor_up (max (length lines) (length widths))))
redraw_bytes widths lines =
    let rest = drop (length lines) widths in
    let over = length widths - length lines in
    let ups = spelling (cursor_up (max (length lines) (length widths))) in
    let size : over ≡ length rest = sym (length-drop (length lines) widths) in
    let drawn = lines_bytes Overwriting widths lines in
    spelling-append (overwrite widths (lines ++ replicate over [])) (cursor_up (max (length lines) (length widths)))
    ∙ ap (λ t. t ++ ups) (sym (overwritten Overwriting widths (lines ++ replicate over [])) ∙ lines_bytes-append Overwriting widths lines (replicate over [])
    ∙ ap (λ n. drawn ++ lines_bytes Overwriting rest (replicate n [])) size ∙ ap (λ t. drawn ++ t) (sym (blanks_overwritten rest)))
    ∙ append_assoc drawn (blank_bytes rest) ups

-- a redraw from its lines on
pub redrawn : (widths : List ℕ) (lines : List Line) (count most : ℕ) (before left a b d : List ℕ) → length lines ≡ count → left ≡ drop count widths → most ≡ max count (length widths)
    → a ≡ before ++ lines_bytes Overwriting widths lines → b ≡ a ++ blank_bytes left → d ≡ b ++ spelling (cursor_up most) → d ≡ before ++ spelling (redraw Overwriting widths lines)
redrawn widths lines count most before left a b d n l m ea eb ed =
    let rest = drop (length lines) widths in
    let ups = spelling (cursor_up (max (length lines) (length widths))) in
    let drawn = lines_bytes Overwriting widths lines in
    ed ∙ ap (λ k. b ++ spelling (cursor_up k)) (m ∙ ap (λ k. max k (length widths)) (sym n))
    ∙ ap (λ t. t ++ ups) (eb ∙ ap (λ t. a ++ blank_bytes t) (l ∙ ap (λ k. drop k widths) (sym n)) ∙ ap (λ t. t ++ blank_bytes rest) ea)
    ∙ append_assoc (before ++ drawn) (blank_bytes rest) ups ∙ append_assoc before drawn (blank_bytes rest ++ ups)
    ∙ ap (λ t. before ++ t) (sym (redraw_bytes widths lines))

-- and on rows that are erased
pub redrawn_erasing : (height : ℕ) (synchronized whole : Bool) (widths : List ℕ) (lines : List Line) (count : ℕ) (before a d : List ℕ) → length lines ≡ count
    → a ≡ before ++ (spelling (unwrapped whole) ++ lines_bytes (Erasing height synchronized whole) [] lines) → d ≡ a ++ spelling (redraw_end height (length widths) count)
    → d ≡ before ++ spelling (redraw (Erasing height synchronized whole) widths lines)
redrawn_erasing height synchronized whole widths lines count before a d n ea ed =
    let layout = Erasing height synchronized whole in
    let end = redraw_end height (length widths) (length lines) in
    let drawn = lines_over layout [] lines in
    let start = unwrapped whole in
    ed ∙ ap (λ k. a ++ spelling (redraw_end height (length widths) k)) (sym n)
    ∙ ap (λ t. t ++ spelling end) (ea ∙ ap (λ t. before ++ (spelling start ++ t)) (overwritten layout [] lines))
    ∙ append_assoc before (spelling start ++ spelling drawn) (spelling end)
    ∙ ap (λ t. before ++ t) (append_assoc (spelling start) (spelling drawn) (spelling end))
    ∙ ap (λ t. before ++ (spelling start ++ t)) (sym (spelling-append drawn end))
    ∙ ap (λ t. before ++ t) (sym (spelling-append start (drawn ++ end)))

-- one erased row more
pub erased_more : (n : ℕ) (old erased new total : List ℕ) → erased ≡ old ++ spelling_of EraseLine → new ≡ erased ++ spelling_of LineFeed
    → old ++ spelling (erased_rows (suc n)) ≡ total → new ++ spelling (erased_rows n) ≡ total
erased_more n old erased new total e f h =
    ap (λ t. t ++ spelling (erased_rows n)) (f ∙ ap (λ t. t ++ spelling_of LineFeed) e)
    ∙ append_assoc (old ++ spelling_of EraseLine) (spelling_of LineFeed) (spelling (erased_rows n))
    ∙ append_assoc old (spelling_of EraseLine) (spelling_of LineFeed ++ spelling (erased_rows n))
    ∙ h

-- one blank line more
pub blanks_more : (widths : List ℕ) (i : ℕ) (old new total : List ℕ) → i < length widths → new ≡ old ++ overwrite_line_bytes (get_or widths i 0) []
    → old ++ blank_bytes (drop i widths) ≡ total → new ++ blank_bytes (drop (i + 1) widths) ≡ total
blanks_more widths i old new total l n e =
    let width = get_or widths i 0 in
    ap (λ t. t ++ blank_bytes (drop (i + 1) widths)) n ∙ append_assoc old (overwrite_line_bytes width []) (blank_bytes (drop (i + 1) widths))
    ∙ ap (λ k. old ++ blank_bytes (width ∷ drop k widths)) (let next : i + 1 ≡ suc i = omega arith in next)
    ∙ ap (λ t. old ++ blank_bytes t) (sym (drop-cons widths i 0 l)) ∙ e

-- a line after what its row begins with
pub line_more : (layout : Layout) (old begun here there : List ℕ) → begun ≡ old ++ spelling (row_start layout)
    → (begun ++ here) ++ there ≡ old ++ (spelling (row_start layout) ++ (here ++ there))
line_more layout old begun here there b =
    append_assoc begun here there ∙ ap (λ t. t ++ (here ++ there)) b ∙ append_assoc old (spelling (row_start layout)) (here ++ there)

-- ---- messages

-- the messages that are left, of which this is the first
pub left_from : (messages : List Message) (i : ℕ) (m : Message) → i < length messages → m ≡ get_or messages i m → drop i messages ≡ m ∷ drop (i + 1) messages
left_from messages i m h e = drop-cons messages i m h ∙ ap (λ x. x ∷ drop (suc i) messages) (sym e) ∙ ap (λ k. m ∷ drop k messages) (let next : suc i ≡ i + 1 = omega arith in next)

-- one message more, of these that are left
pub message_more : (layout : Layout) (options : Options) (widths kept new_kept old begun new total : List ℕ) (m : Message) (messages left : List Message) (greatest own width : ℕ) (others : List ℕ)
    → own ≡ origin_width options.defensive m.origin → greatest ≡ max (greatest_width kept) own → new_kept ≡ kept ++ own ∷ [] → width ≡ first_width widths → others ≡ drop 1 widths
    → begun ≡ old ++ spelling (row_start layout) → new ≡ begun ++ overwrite_line_bytes width (drawn_message_line options greatest m)
    → left ≡ m ∷ messages → old ++ lines_bytes layout widths (message_lines options kept left) ≡ total
    → new ++ lines_bytes layout others (message_lines options new_kept messages) ≡ total
message_more layout options widths kept new_kept old begun new total m messages left greatest own width others o g k w l b n f e =
    let all : new_kept ≡ kept ++ origin_width options.defensive m.origin ∷ [] = k ∙ ap (λ x. kept ++ x ∷ []) o in
    let size : greatest ≡ greatest_width (kept ++ origin_width options.defensive m.origin ∷ []) = g ∙ ap (max (greatest_width kept)) o ∙ sym (greatest_width-append kept (origin_width options.defensive m.origin)) in
    let here = overwrite_line_bytes (first_width widths) (drawn_message_line options (greatest_width (kept ++ origin_width options.defensive m.origin ∷ [])) m) in
    let there = lines_bytes layout (drop 1 widths) (message_lines options (kept ++ origin_width options.defensive m.origin ∷ []) messages) in
    ap (λ t. new ++ lines_bytes layout t (message_lines options new_kept messages)) l ∙ ap (λ t. new ++ lines_bytes layout (drop 1 widths) (message_lines options t messages)) all
    ∙ ap (λ t. t ++ there) (n ∙ ap (λ x. begun ++ overwrite_line_bytes x (drawn_message_line options greatest m)) w ∙ ap (λ x. begun ++ overwrite_line_bytes (first_width widths) (drawn_message_line options x m)) size)
    ∙ line_more layout old begun here there b
    ∙ ap (λ ms. old ++ lines_bytes layout widths (message_lines options kept ms)) (sym f) ∙ e

-- and its origin
pub origin_more : (defensive : Bool) (kept new_kept total : List ℕ) (m : Message) (messages left : List Message) (own : ℕ) → own ≡ origin_width defensive m.origin → new_kept ≡ kept ++ own ∷ []
    → left ≡ m ∷ messages → kept ++ widths_of_origins defensive left ≡ total → new_kept ++ widths_of_origins defensive messages ≡ total
origin_more defensive kept new_kept total m messages left own o k f e =
    ap (λ t. t ++ widths_of_origins defensive messages) (k ∙ ap (λ n. kept ++ n ∷ []) o) ∙ append_assoc kept (origin_width defensive m.origin ∷ []) (widths_of_origins defensive messages)
    ∙ ap (λ ms. kept ++ widths_of_origins defensive ms) (sym f) ∙ e

pub length-message_lines : (options : Options) (widths : List ℕ) (messages : List Message) → length (message_lines options widths messages) ≡ length messages
length-message_lines options widths [] = refl
length-message_lines options widths (m ∷ messages) = ap suc (length-message_lines options (widths ++ origin_width options.defensive m.origin ∷ []) messages)

-- ---- whole frames

-- where the frame of an action is to erase rows, it begins as its body says
pub action_starts : (layout : Layout) (action : Action) (drawing : Drawing) (ending : List Sign) → action_start layout action ≡ frame_start layout (body_of action drawing ending)
action_starts Overwriting action drawing ending = refl
action_starts (Erasing height synchronized whole) Leave drawing ending = refl
action_starts (Erasing height synchronized whole) Redraw drawing ending = refl
action_starts (Erasing height synchronized whole) Erase drawing ending = refl
action_starts (Erasing height synchronized whole) Close drawing ending = refl

-- and ends as it says
pub action_ends : (layout : Layout) (action : Action) (drawing : Drawing) (ending : List Sign) → action_end layout action ≡ frame_end layout (body_of action drawing ending)
action_ends Overwriting action drawing ending = refl
action_ends (Erasing height synchronized whole) Leave drawing ending = refl
action_ends (Erasing height synchronized whole) Redraw drawing ending = refl
action_ends (Erasing height synchronized whole) Erase drawing ending = refl
action_ends (Erasing height synchronized whole) Close drawing ending = refl

-- a number that isn't 0
pub counted : (n : ℕ) → 0 < n → not (nat_eq n 0) ≡ true
counted n h = grind (arith, nat_tests)

-- there are lines if their number isn't 0
pub has_by_length : (lines : List Line) → not (nat_eq (length lines) 0) ≡ has_lines lines
has_by_length [] = refl
has_by_length (line ∷ lines) = counted (length (line ∷ lines)) (omega arith)

-- nothing comes before messages if there are none
pub no_messages_start : (layout : Layout) → messages_start layout false ≡ []
no_messages_start Overwriting = refl
no_messages_start (Erasing height synchronized whole) = refl

-- the beginning of a frame without messages
pub begins_without : (layout : Layout) (action : Action) (drawing : Drawing) (ending : List Sign)
    → action_start layout action ≡ frame_begin layout [] (body_of action drawing ending)
begins_without layout action drawing ending =
    action_starts layout action drawing ending
    ∙ sym (append-nil (frame_start layout (body_of action drawing ending)))
    ∙ ap (λ (signs : List Sign). frame_start layout (body_of action drawing ending) ++ signs) (sym (no_messages_start layout))

-- the bytes of the beginning, and of what comes before messages
pub begun_with : (opening first second : List Sign) (a b : List ℕ) → a ≡ spelling (opening ++ first) → b ≡ a ++ spelling second → b ≡ spelling (opening ++ (first ++ second))
begun_with opening first second a b ea eb =
    eb ∙ ap (λ t. t ++ spelling second) ea ∙ sym (spelling-append (opening ++ first) second) ∙ ap spelling (append_assoc opening first second)

-- what it begins with, the messages over the lines on screen, the body over those that are left, and what it ends with
pub frame_bytes_of : (f : Frame) (start end : List Sign) (widths left o a b z : List ℕ) (count : ℕ) → o ≡ spelling (f.opening ++ start) → start ≡ frame_begin f.layout f.messages f.body
    → end ≡ frame_end f.layout f.body → a ≡ o ++ lines_bytes (message_layout f.layout) (covered f.layout widths) f.messages → left ≡ drop count widths
    → count ≡ length f.messages → b ≡ a ++ spelling (body_signs f.layout left f.body) → z ≡ b ++ spelling end → z ≡ spelling (frame_signs widths f)
frame_bytes_of f start end widths left o a b z count eo es ee ea l n eb ez =
    let first = frame_begin f.layout f.messages f.body in
    let last = frame_end f.layout f.body in
    let printed = lines_over (message_layout f.layout) (covered f.layout widths) f.messages in
    let body = body_signs f.layout (drop (length f.messages) widths) f.body in
    let begins : o ≡ spelling f.opening ++ spelling first = eo ∙ ap (λ t. spelling (f.opening ++ t)) es ∙ spelling-append f.opening first in
    ez ∙ ap (λ t. b ++ spelling t) ee
    ∙ ap (λ t. t ++ spelling last) (eb ∙ ap (λ t. t ++ spelling (body_signs f.layout left f.body)) (ea ∙ ap (λ t. o ++ t) (overwritten (message_layout f.layout) (covered f.layout widths) f.messages) ∙ ap (λ t. t ++ spelling printed) begins)
    ∙ ap (λ w. ((spelling f.opening ++ spelling first) ++ spelling printed) ++ spelling (body_signs f.layout w f.body)) (l ∙ ap (λ k. drop k widths) n))
    ∙ append_assoc ((spelling f.opening ++ spelling first) ++ spelling printed) (spelling body) (spelling last)
    ∙ append_assoc (spelling f.opening ++ spelling first) (spelling printed) (spelling body ++ spelling last)
    ∙ append_assoc (spelling f.opening) (spelling first) (spelling printed ++ (spelling body ++ spelling last))
    ∙ ap (λ t. spelling f.opening ++ (spelling first ++ (spelling printed ++ t))) (sym (spelling-append body last))
    ∙ ap (λ t. spelling f.opening ++ (spelling first ++ t)) (sym (spelling-append printed (body ++ last)))
    ∙ ap (λ t. spelling f.opening ++ t) (sym (spelling-append first (printed ++ (body ++ last))))
    ∙ sym (spelling-append f.opening (first ++ (printed ++ (body ++ last))))
