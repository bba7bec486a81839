-- Frames that erase the rows that they write on, on a page that shows anything, for any widths of characters.
use Rattle.std.proofs.Common.{Bool, true, false, cond, ◌≡◌, ℕ, zero, suc, ◌+◌, ◌-◌, ◌^◌, ◌<◌, ◌≤◌, List, [], ◌∷◌, ◌++◌, length, take, drop, refl, sym, ap, subst, ◌∙◌, append_assoc, length-append, length-drop, arith}
use Rattle.std.specs.Prelude.{replicate, max}
use Rattle.std.specs.List.{AllByRecursion}
use Rattle.std.proofs.lemmas.List.{append-nil, length-replicate, length-map, length-take-le, take-append-drop, replicate-append-replicate}
use Rattle.prodash_line.specs.declared.render.line.page.sign.Sign.{Sign}
use Rattle.prodash_line.specs.declared.render.line.page.sign.Sign.TheVariants.{LineFeed, EraseLine, EraseBelow, NoWrap, Wrap}
use Rattle.prodash_line.specs.declared.render.line.draw.layout.Layout.{Layout}
use Rattle.prodash_line.specs.declared.render.line.draw.layout.Layout.TheVariants.{Overwriting, Erasing}
use Rattle.prodash_line.specs.Lines.{Line}
use Rattle.prodash_line.specs.Frames.{overwrite_line, message_layout, lines_over, unwrapped, erasing_start, erasing_end, blank_below, has_lines, messages_start, cursor_up, erased_rows, left_over, redraw, Body, Unchanged, Draws, Closes, Frame, frame_signs}
use Rattle.prodash_line.specs.CellRows.{blank_cells, blank_row}
use Rattle.prodash_line.specs.declared.render.line.page.cell.Cell.{Cell}
use Rattle.prodash_line.specs.Terminals.{Terminal, terminal_after_sign, terminal_after}
use Rattle.prodash_line.specs.ErasedPages.{HasSize, line_row, line_rows, message_rows, ShowsErased, ShowsBody}
use Rattle.prodash_line.proofs.TerminalRows.{at, terminal_after-append, erase_at, below_or, next_on, erased_line_at, rows_after, length-rows_after, some_is, below_at, cursor_up_at}
use Rattle.prodash_line.proofs.UnseenSigns.{IsUnseen, unseen_on_terminal}
use Rattle.prodash_line.proofs.WrappedMessages.{lines_wrap, blanked}

-- lines
lines_at : (columns : ℕ → ℕ) (width height window : ℕ) (synchronized whole : Bool) (lines : List Line) (above below : List (List Cell)) → 0 < length below
    → terminal_after columns (lines_over (Erasing window synchronized whole) [] lines) (at width height false above below) ≡ at width height false (above ++ line_rows columns width lines) (rows_after width (length lines) below)
lines_at columns width height window synchronized whole [] above below i = ap (λ (a : List (List Cell)). at width height false a below) (sym (append-nil above))
lines_at columns width height window synchronized whole (line ∷ lines) above [] i = absurd (omega arith)
lines_at columns width height window synchronized whole (line ∷ lines) above (row ∷ below) i =
    terminal_after-append columns (EraseLine ∷ overwrite_line 0 line) (lines_over (Erasing window synchronized whole) [] lines) (at width height false above (row ∷ below))
    ∙ ap (terminal_after columns (lines_over (Erasing window synchronized whole) [] lines)) (erased_line_at columns width height above row below line)
    ∙ lines_at columns width height window synchronized whole lines (above ++ line_row columns width line ∷ []) (below_or width below) (some_is width below)
    ∙ ap (λ (a : List (List Cell)). at width height false a (rows_after width (length lines) (below_or width below))) (append_assoc above (line_row columns width line ∷ []) (line_rows columns width lines))

-- erased rows
rows_at : (columns : ℕ → ℕ) (width height n : ℕ) (above below : List (List Cell)) → 0 < length below
    → terminal_after columns (erased_rows n) (at width height false above below) ≡ at width height false (above ++ replicate n (blank_cells width)) (rows_after width n below)
rows_at columns width height zero above below i = ap (λ (a : List (List Cell)). at width height false a below) (sym (append-nil above))
rows_at columns width height (suc n) above [] i = absurd (omega arith)
rows_at columns width height (suc n) above (row ∷ below) i =
    ap (λ (p : Terminal). terminal_after columns (erased_rows n) (terminal_after_sign columns LineFeed p)) (erase_at columns width height false above row below)
    ∙ ap (terminal_after columns (erased_rows n)) (next_on width height false above (blank_row width) below)
    ∙ rows_at columns width height n (above ++ blank_cells width ∷ []) (below_or width below) (some_is width below)
    ∙ ap (λ (a : List (List Cell)). at width height false a (rows_after width n (below_or width below))) (append_assoc above (blank_cells width ∷ []) (replicate n (blank_cells width)))

-- how many blank rows a redraw leaves below the lines
abbrev blanks_after : ℕ → ℕ → ℕ → List (List Cell) → ℕ
blanks_after width rest count below = rest + length (rows_after width rest (rows_after width count below))

-- the signs of lines drawn anew, once no character wraps
abbrev drawing_signs : ℕ → Bool → Bool → List ℕ → List Line → List Sign
drawing_signs height synchronized whole widths lines =
    let rest = left_over height (length widths) (length lines) in
    lines_over (Erasing height synchronized whole) [] lines ++ (erased_rows rest ++ EraseBelow ∷ cursor_up (length lines + rest))

-- they leave the lines and blank rows
drawing_at : (columns : ℕ → ℕ) (width height : ℕ) (synchronized whole : Bool) (widths : List ℕ) (lines : List Line) (above below : List (List Cell))
    → length lines < height → height < 2 ^ 16 → 0 < length below → length below ≤ height
    → terminal_after columns (drawing_signs height synchronized whole widths lines) (at width height false above below)
    ≡ at width height false above (line_rows columns width lines ++ replicate (blanks_after width (left_over height (length widths) (length lines)) (length lines) below) (blank_cells width))
drawing_at columns width height synchronized whole widths lines above below few low i fits =
    let count = length lines in
    let rest = left_over height (length widths) count in
    let after_lines = rows_after width count below in
    let after_rows = rows_after width rest after_lines in
    let drawn = line_rows columns width lines in
    let erased = replicate rest (blank_cells width) in
    let blanks = replicate (length after_rows) (blank_cells width) in
    let some_lines : length after_lines ≡ max 1 (length below - count) = length-rows_after width count below i in
    let some_rows : length after_rows ≡ max 1 (length after_lines - rest) = length-rows_after width rest after_lines (omega arith) in
    let high : count + rest < height = omega arith in
    let mapped : length drawn ≡ count = length-map lines (line_row columns width) in
    let filled : length erased ≡ rest = length-replicate rest (blank_cells width) in
    let size : length (drawn ++ erased) ≡ length drawn + length erased = length-append drawn erased in
    let blank_size : length blanks ≡ length after_rows = length-replicate (length after_rows) (blank_cells width) in
    terminal_after-append columns (lines_over (Erasing height synchronized whole) [] lines) (erased_rows rest ++ EraseBelow ∷ cursor_up (count + rest)) (at width height false above below)
    ∙ ap (terminal_after columns (erased_rows rest ++ EraseBelow ∷ cursor_up (count + rest))) (lines_at columns width height height synchronized whole lines above below i)
    ∙ terminal_after-append columns (erased_rows rest) (EraseBelow ∷ cursor_up (count + rest)) (at width height false (above ++ drawn) after_lines)
    ∙ ap (terminal_after columns (EraseBelow ∷ cursor_up (count + rest))) (rows_at columns width height rest (above ++ drawn) after_lines (omega arith))
    ∙ ap (terminal_after columns (cursor_up (count + rest))) (below_at columns width height false ((above ++ drawn) ++ erased) after_rows (omega arith))
    ∙ ap (λ (a : List (List Cell)). terminal_after columns (cursor_up (count + rest)) (at width height false a blanks)) (append_assoc above drawn erased)
    ∙ ap (λ (n : ℕ). terminal_after columns (cursor_up n) (at width height false (above ++ (drawn ++ erased)) blanks)) (let e : count + rest ≡ length (drawn ++ erased) = omega arith in e)
    ∙ cursor_up_at columns width height false above (drawn ++ erased) blanks (omega arith) (omega arith) low
    ∙ ap (λ (r : List (List Cell)). at width height false above r)
    (append_assoc drawn erased blanks ∙ ap (λ (r : List (List Cell)). drawn ++ r) (replicate-append-replicate rest (length after_rows) (blank_cells width)))

-- a page whose cursor goes to the beginning of its row
placed : (page : Terminal) (wraps : Bool) → page.row < length page.rows
    → record page { column = 0; wraps = wraps } ≡ at page.width page.height wraps (take page.row page.rows) (drop page.row page.rows)
placed page wraps lt =
    ap (λ (rows : List (List Cell)). record { width = page.width; height = page.height; rows = rows; row = page.row; column = 0; wraps = wraps }) (sym (take-append-drop page.row page.rows))
    ∙ ap (λ (n : ℕ). record { width = page.width; height = page.height; rows = take page.row page.rows ++ drop page.row page.rows; row = n; column = 0; wraps = wraps }) (sym (length-take-le page.row page.rows (omega arith)))

-- a frame begins so: characters wrap as before if messages are written whole, and else no longer
start_at : (columns : ℕ → ℕ) (synchronized whole : Bool) (page : Terminal) → page.row < length page.rows
    → terminal_after columns (erasing_start synchronized whole) page ≡ at page.width page.height (cond whole page.wraps false) (take page.row page.rows) (drop page.row page.rows)
start_at columns true true page lt = placed page page.wraps lt
start_at columns true false page lt = placed page false lt
start_at columns false true page lt = placed page page.wraps lt
start_at columns false false page lt = placed page false lt

-- and ends so: characters wrap
end_at : (columns : ℕ → ℕ) (synchronized : Bool) (width height : ℕ) (above below : List (List Cell))
    → terminal_after columns (erasing_end synchronized) (at width height false above below) ≡ at width height true above below
end_at columns true width height above below = refl
end_at columns false width height above below = refl

-- signs that a page doesn't show change nothing
all_unseen : (columns : ℕ → ℕ) (signs : List Sign) (page : Terminal) → AllByRecursion IsUnseen signs → terminal_after columns signs page ≡ page
all_unseen columns [] page h = refl
all_unseen columns (s ∷ ss) page h = ap (terminal_after columns ss) (unseen_on_terminal columns s page h.0) ∙ all_unseen columns ss page h.1

-- ---- messages

-- the signs from a frame's start to its drawn lines
abbrev printing_signs : ℕ → Bool → Bool → List Line → List Sign
printing_signs height synchronized whole messages =
    (erasing_start synchronized whole ++ messages_start (Erasing height synchronized whole) (has_lines messages))
    ++ (lines_over (message_layout (Erasing height synchronized whole)) [] messages ++ unwrapped whole)

-- they leave these rows below those above the cursor's, the cursor in the row below them, and characters that don't wrap
record Prints (columns : ℕ → ℕ) (page : Terminal) (signs : List Sign) (rows : List (List Cell)) : Type 0 where
  below : List (List Cell)
  is : terminal_after columns signs page ≡ at page.width page.height false (take page.row page.rows ++ rows) below
  some : 0 < length below
  fits : length below ≤ page.height
  kept : length page.rows ≤ page.row + (length rows + length below)

-- nothing comes before messages that are cut
no_start : (height : ℕ) (synchronized : Bool) (messages : List Line) → messages_start (Erasing height synchronized false) (has_lines messages) ≡ []
no_start height synchronized [] = refl
no_start height synchronized (m ∷ messages) = refl

prints_cut : (columns : ℕ → ℕ) (page : Terminal) (synchronized : Bool) (messages : List Line) → HasSize (page.width, page.height) page
    → Prints columns page (printing_signs page.height synchronized false messages) (message_rows false columns page.width messages)
prints_cut columns page synchronized messages size =
    let width = page.width in
    let height = page.height in
    let start = erasing_start synchronized false in
    let printing = lines_over (Erasing height synchronized false) [] messages in
    let above = take page.row page.rows in
    let below = drop page.row page.rows in
    let rows = line_rows columns width messages in
    let after = rows_after width (length messages) below in
    let inside : page.row < length page.rows = size.row in
    let window : length page.rows ≤ page.row + height = size.window in
    let rows_below : length below ≡ length page.rows - page.row = length-drop page.row page.rows in
    let some : length after ≡ max 1 (length below - length messages) = length-rows_after width (length messages) below (omega arith) in
    let mapped : length rows ≡ length messages = length-map messages (line_row columns width) in
    record {
      below = after;
      is = ap (λ (signs : List Sign). terminal_after columns ((start ++ signs) ++ (printing ++ [])) page) (no_start height synchronized messages)
          ∙ terminal_after-append columns (start ++ []) (printing ++ []) page
          ∙ ap (λ (signs : List Sign). terminal_after columns (printing ++ []) (terminal_after columns signs page)) (append-nil start)
          ∙ ap (terminal_after columns (printing ++ [])) (start_at columns synchronized false page size.row)
          ∙ ap (λ (signs : List Sign). terminal_after columns signs (at width height false above below)) (append-nil printing)
          ∙ lines_at columns width height height synchronized false messages above below (omega arith);
      some = omega arith;
      fits = omega arith;
      kept = omega arith;
    }

prints_whole_messages : (columns : ℕ → ℕ) (page : Terminal) (synchronized : Bool) (messages : List Line) → HasSize (page.width, page.height) page
    → Prints columns page (printing_signs page.height synchronized true messages) (message_rows true columns page.width messages)
prints_whole_messages columns page synchronized [] size =
    let start = erasing_start synchronized true in
    let above = take page.row page.rows in
    let below = drop page.row page.rows in
    let inside : page.row < length page.rows = size.row in
    let window : length page.rows ≤ page.row + page.height = size.window in
    let rows_below : length below ≡ length page.rows - page.row = length-drop page.row page.rows in
    record {
      below = below;
      is = terminal_after-append columns (start ++ []) (NoWrap ∷ []) page
          ∙ ap (λ (signs : List Sign). (terminal_after_sign columns NoWrap) (terminal_after columns signs page)) (append-nil start)
          ∙ ap (terminal_after_sign columns NoWrap) (start_at columns synchronized true page size.row)
          ∙ ap (λ (rows : List (List Cell)). at page.width page.height false rows below) (sym (append-nil above));
      some = omega arith;
      fits = omega arith;
      kept = omega arith;
    }
prints_whole_messages columns page synchronized (m ∷ messages) size =
    let width = page.width in
    let height = page.height in
    let start = erasing_start synchronized true in
    let blanking = Wrap ∷ EraseLine ∷ blank_below height in
    let printing = lines_over Overwriting [] (m ∷ messages) in
    let above = take page.row page.rows in
    let below = drop page.row page.rows in
    let rows = message_rows true columns width (m ∷ messages) in
    let inside : page.row < length page.rows = size.row in
    let window : length page.rows ≤ page.row + height = size.window in
    let rows_below : length below ≡ length page.rows - page.row = length-drop page.row page.rows in
    let blank = blanked columns width height above below (omega arith) (omega arith) size.low in
    let n = blank.count in
    let kept : length below ≤ n = blank.kept in
    let fits : n ≤ height = blank.fits in
    let left = max 1 (n - length rows) in
    let size_left : length (replicate left (blank_cells width)) ≡ left = length-replicate left (blank_cells width) in
    record {
      below = replicate left (blank_cells width);
      is = terminal_after-append columns (start ++ blanking) (printing ++ NoWrap ∷ []) page
          ∙ ap (terminal_after columns (printing ++ NoWrap ∷ []))
          (terminal_after-append columns start blanking page
          ∙ ap (terminal_after columns blanking) (start_at columns synchronized true page size.row)
          ∙ blank.is)
          ∙ terminal_after-append columns printing (NoWrap ∷ []) (at width height true above (replicate n (blank_cells width)))
          ∙ ap (terminal_after_sign columns NoWrap) (lines_wrap columns width height (m ∷ messages) above n blank.some);
      some = omega arith;
      fits = omega arith;
      kept = omega arith;
    }

prints : (columns : ℕ → ℕ) (page : Terminal) (synchronized whole : Bool) (messages : List Line) → HasSize (page.width, page.height) page
    → Prints columns page (printing_signs page.height synchronized whole messages) (message_rows whole columns page.width messages)
prints columns page synchronized true messages size = prints_whole_messages columns page synchronized messages size
prints columns page synchronized false messages size = prints_cut columns page synchronized messages size

-- ---- frames

-- the signs of a frame after its opening: messages, lines drawn anew, and what it ends with
abbrev erasing_signs : ℕ → Bool → Bool → List ℕ → List Line → List Line → List Sign → List Sign
erasing_signs height synchronized whole widths messages lines ending =
    (erasing_start synchronized whole ++ messages_start (Erasing height synchronized whole) (has_lines messages))
    ++ (lines_over (message_layout (Erasing height synchronized whole)) [] messages
    ++ ((redraw (Erasing height synchronized whole) widths lines ++ ending) ++ erasing_end synchronized))

-- the same parts, with those up to the drawn lines together
regrouped : (b p u d e n : List Sign) → b ++ (p ++ (((u ++ d) ++ e) ++ n)) ≡ (b ++ (p ++ u)) ++ ((d ++ e) ++ n)
regrouped b p u d e n =
    ap (λ (x : List Sign). b ++ (p ++ (x ++ n))) (append_assoc u d e)
    ∙ ap (λ (x : List Sign). b ++ (p ++ x)) (append_assoc u (d ++ e) n)
    ∙ ap (λ (x : List Sign). b ++ x) (sym (append_assoc p u ((d ++ e) ++ n)))
    ∙ sym (append_assoc b (p ++ u) ((d ++ e) ++ n))

-- they leave the rows above, then those of the messages, the lines and blank rows
erasing_at : (columns : ℕ → ℕ) (page : Terminal) (synchronized whole : Bool) (widths : List ℕ) (messages lines : List Line) (ending : List Sign) → HasSize (page.width, page.height) page
    → length lines < page.height → AllByRecursion IsUnseen ending
    → let width = page.width in
    let rows = message_rows whole columns width messages in
    (printed : Prints columns page (printing_signs page.height synchronized whole messages) rows)
    → terminal_after columns (erasing_signs page.height synchronized whole widths messages lines ending) page
    ≡ at width page.height true (take page.row page.rows ++ rows)
    (line_rows columns width lines ++ replicate (blanks_after width (left_over page.height (length widths) (length lines)) (length lines) printed.below) (blank_cells width))
erasing_at columns page synchronized whole widths messages lines ending size few ends printed =
    let width = page.width in
    let height = page.height in
    let above = take page.row page.rows ++ message_rows whole columns width messages in
    let layout = Erasing height synchronized whole in
    let drawing = drawing_signs height synchronized whole widths lines in
    let end = erasing_end synchronized in
    let p : Terminal = at width height false above printed.below in
    ap (λ (signs : List Sign). terminal_after columns signs page)
    (regrouped (erasing_start synchronized whole ++ messages_start layout (has_lines messages)) (lines_over (message_layout layout) [] messages) (unwrapped whole) drawing ending end)
    ∙ terminal_after-append columns (printing_signs height synchronized whole messages) ((drawing ++ ending) ++ end) page
    ∙ ap (terminal_after columns ((drawing ++ ending) ++ end)) printed.is
    ∙ terminal_after-append columns (drawing ++ ending) end p
    ∙ ap (terminal_after columns end)
    (terminal_after-append columns drawing ending p
    ∙ ap (terminal_after columns ending) (drawing_at columns width height synchronized whole widths lines above printed.below few size.low printed.some printed.fits)
    ∙ all_unseen columns ending _ ends)
    ∙ end_at columns synchronized width height above _

-- so the page shows them
shows_erased : (columns : ℕ → ℕ) (page : Terminal) (synchronized whole : Bool) (widths : List ℕ) (messages lines : List Line) (ending : List Sign) → HasSize (page.width, page.height) page
    → length lines < page.height → AllByRecursion IsUnseen ending
    → ShowsErased whole columns page messages lines (terminal_after columns (erasing_signs page.height synchronized whole widths messages lines ending) page)
shows_erased columns page synchronized whole widths messages lines ending size few ends =
    let width = page.width in
    let height = page.height in
    let above = take page.row page.rows in
    let rows = message_rows whole columns width messages in
    let drawn = line_rows columns width lines in
    let rest = left_over height (length widths) (length lines) in
    let printed = prints columns page synchronized whole messages size in
    let some_below : 0 < length printed.below = printed.some in
    let fits : length printed.below ≤ height = printed.fits in
    let kept : length page.rows ≤ page.row + (length rows + length printed.below) = printed.kept in
    let after_lines = rows_after width (length lines) printed.below in
    let after_rows = rows_after width rest after_lines in
    let blanks = blanks_after width rest (length lines) printed.below in
    let blank_rows = replicate blanks (blank_cells width) in
    let low : height < 2 ^ 16 = size.low in
    let inside : page.row < length page.rows = size.row in
    let rows_above : length above ≡ page.row = length-take-le page.row page.rows (omega arith) in
    let some_lines : length after_lines ≡ max 1 (length printed.below - length lines) = length-rows_after width (length lines) printed.below (omega arith) in
    let some_rows : length after_rows ≡ max 1 (length after_lines - rest) = length-rows_after width rest after_lines (omega arith) in
    let end : Terminal = at width height true (above ++ rows) (drawn ++ blank_rows) in
    let drawn_size : length drawn ≡ length lines = length-map lines (line_row columns width) in
    let blank_size : length blank_rows ≡ blanks = length-replicate blanks (blank_cells width) in
    let first : length (above ++ rows) ≡ length above + length rows = length-append above rows in
    let last : length (drawn ++ blank_rows) ≡ length drawn + length blank_rows = length-append drawn blank_rows in
    let all : length end.rows ≡ length (above ++ rows) + length (drawn ++ blank_rows) = length-append (above ++ rows) (drawn ++ blank_rows) in
    subst (ShowsErased whole columns page messages lines) (sym (erasing_at columns page synchronized whole widths messages lines ending size few ends printed)) (record {
      blanks = blanks;
      rows = append_assoc above rows (drawn ++ blank_rows);
      kept = omega arith;
      row = omega arith;
      column = refl;
      size = record { width = refl; height = refl; low = size.low; row = omega arith; window = omega arith };
      wraps = refl;
    })

-- a body that draws draws fewer lines than the window has rows
abbrev pub IsLow : ℕ → Body → Type 0
IsLow height (Draws lines) = length lines < height
IsLow height _ = Unit {0}

-- a body that closes the renderer ends with signs that a page doesn't show
abbrev pub EndsUnseen : Body → Type 0
EndsUnseen (Closes ending) = AllByRecursion IsUnseen ending
EndsUnseen _ = Unit {0}

-- a body that leaves the lines on screen comes after no message
abbrev pub NoneLeft : Body → List Line → Type 0
NoneLeft Unchanged messages = messages ≡ []
NoneLeft _ messages = Unit {0}

-- a frame that erases rows, in a window of this height, with whole messages or not
pub record ErasesRows (height : ℕ) (whole : Bool) (f : Frame) : Type 0 where
  pub synchronized : Bool
  pub layout : f.layout ≡ Erasing height synchronized whole
  pub opening : AllByRecursion IsUnseen f.opening
  pub low : IsLow height f.body
  pub ends : EndsUnseen f.body
  pub left : NoneLeft f.body f.messages

-- such a frame, by its parts
shows_body : (columns : ℕ → ℕ) (page : Terminal) (synchronized whole : Bool) (widths : List ℕ) (opening : List Sign) (messages : List Line) (body : Body) → HasSize (page.width, page.height) page
    → AllByRecursion IsUnseen opening → IsLow page.height body → EndsUnseen body → NoneLeft body messages
    → ShowsBody whole columns page messages body (terminal_after columns (frame_signs widths (record { layout = Erasing page.height synchronized whole; opening = opening; messages = messages; body = body })) page)
shows_body columns page synchronized whole widths opening messages Unchanged size o low ends none =
    let layout = Erasing page.height synchronized whole in (
      none,
      ap (λ (ms : List Line). terminal_after columns (opening ++ (messages_start layout (has_lines ms) ++ (lines_over (message_layout layout) [] ms ++ []))) page) none
          ∙ terminal_after-append columns opening [] page
          ∙ all_unseen columns opening page o,
    )
shows_body columns page synchronized whole widths opening messages (Draws lines) size o low ends none =
    let left = drop (length messages) widths in
    let layout = Erasing page.height synchronized whole in
    let begin = erasing_start synchronized whole ++ messages_start layout (has_lines messages) in
    let printing = lines_over (message_layout layout) [] messages in
    let drawing = redraw layout left lines in
    let end = erasing_end synchronized in
    let signs = begin ++ (printing ++ (drawing ++ end)) in
    subst (ShowsErased whole columns page messages lines)
    (sym (terminal_after-append columns opening signs page
    ∙ ap (terminal_after columns signs) (all_unseen columns opening page o)
    ∙ ap (λ (ss : List Sign). terminal_after columns (begin ++ (printing ++ (ss ++ end))) page) (sym (append-nil drawing))))
    (shows_erased columns page synchronized whole left messages lines [] size low tt)
shows_body columns page synchronized whole widths opening messages (Closes ending) size o low ends none =
    let high : 0 < page.height = omega (arith, size.row, size.window) in
    let left = drop (length messages) widths in
    let signs = erasing_signs page.height synchronized whole left messages [] ending in
    subst (ShowsErased whole columns page messages [])
    (sym (terminal_after-append columns opening signs page ∙ ap (terminal_after columns signs) (all_unseen columns opening page o)))
    (shows_erased columns page synchronized whole left messages [] ending size high ends)

-- every page of that height shows it
pub shows_frame : (columns : ℕ → ℕ) (size : ℕ × ℕ) (whole : Bool) (page : Terminal) (widths : List ℕ) (f : Frame) → HasSize size page → ErasesRows size.1 whole f
    → ShowsBody whole columns page f.messages f.body (terminal_after columns (frame_signs widths f) page)
shows_frame columns size whole page widths f has h =
    let inside : HasSize (page.width, page.height) page = record { width = refl; height = refl; low = has.low; row = has.row; window = has.window } in
    subst (λ (l : Layout). ShowsBody whole columns page f.messages f.body (terminal_after columns (frame_signs widths (record f { layout = l })) page)) (ap (λ (n : ℕ). Erasing n h.synchronized whole) has.height ∙ sym h.layout)
    (shows_body columns page h.synchronized whole widths f.opening f.messages f.body inside h.opening
    (subst (λ (n : ℕ). IsLow n f.body) (sym has.height) h.low) h.ends h.left)
