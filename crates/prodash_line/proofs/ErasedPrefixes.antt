-- What a page shows of the inputs to one renderer that erases rows, for any widths of characters.
use Rattle.std.proofs.Common.{◌≡◌, ℕ, ◌+◌, ◌<◌, ◌≤◌, Bool, true, false, List, [], ◌∷◌, ◌++◌, length, take, drop, refl, sym, ap, subst, ◌∙◌, append_assoc, append-nil, length-append, Result, Ok, Err, Some, None, ⊎_elim, inl, inr, arith}
use Rattle.std.specs.Prelude.{replicate}
use Rattle.std.specs.List.{AllByRecursion}
use Rattle.std.proofs.lemmas.List.{map-append, length-take-le}
use Rattle.std.proofs.lemmas.Grind.{flat_map-append}
use Rattle.std.proofs.Math.Seq.{take-append_seam}
use Rattle.prodash_base.specs.declared.refusal.Refusal.{Refusal}
use Rattle.prodash_base.specs.declared.refusal.Refusal.TheVariants as refusals
use Rattle.prodash_line.specs.declared.render.line.draw.input.Input.{Input}
use Rattle.prodash_line.specs.declared.render.line.draw.input.Input.TheVariants.{Tick, Resize, Quit}
use Rattle.prodash_line.specs.declared.render.line.draw.input.Answer.{Answer}
use Rattle.prodash_line.specs.declared.render.line.draw.input.Options.{Options}
use Rattle.prodash_line.specs.Lines.{Line, line_text}
use Rattle.prodash_line.specs.DrawnLines.{erases_rows}
use Rattle.prodash_line.specs.Frames.{Body, Unchanged, Draws, Closes, body_lines, lines_after, frame_signs, all_lines_after, printed_lines}
use Rattle.prodash_line.specs.CellRows.{blank_cells, wrapped}
use Rattle.prodash_line.specs.declared.render.line.page.cell.Cell.{Cell}
use Rattle.prodash_line.specs.Terminals.{Terminal, terminal_after}
use Rattle.prodash_line.specs.Reading.{AreProper}
use Rattle.prodash_line.specs.Renderer.{Renderer, Renders, remember, frame_at, frame_bytes, next_renderer}
use Rattle.prodash_line.specs.Screens.{ScreenState}
use Rattle.prodash_line.specs.Renderings.{Rendering, after_result, renderer_after}
use Rattle.prodash_line.specs.plumbing.RenderedInputs.{RendersAll}
use Rattle.prodash_line.specs.ErasedPages.{HasSize, line_row, line_rows, message_rows, ShowsErased, ShowsBody, HasScalars, ShowsSince, AcceptedFrame, accepted_by, accepted_frames, frames_in, signs_in_turn, ShowInTurn, WritesInTurn, ErasesInTurn}
use Rattle.prodash_line.specs.Signs.{IsProper, spelling_of, spelling}
use Rattle.prodash_line.specs.declared.render.line.page.sign.Sign.{Sign}
use Rattle.prodash_line.proofs.Lists.{AllByRecursion-append, AllByRecursion-parts}
use Rattle.prodash_line.proofs.TerminalRows.{terminal_after-append}
use Rattle.prodash_line.proofs.Renderings.{true_is_not_false, was_unbroken, broken_refuses, refuses_all, options_after}
use Rattle.prodash_line.proofs.ErasedPages.{ErasesRows, shows_frame}
use Rattle.prodash_line.proofs.ErasedRenderings.{frame_erases, erased_proper}

-- ---- one frame after others

-- the rows above the first lines, with the messages before them, are those above the lines drawn next
rows_between : (whole : Bool) (columns : ℕ → ℕ) (page p : Terminal) (messages lines : List Line) → page.row < length page.rows → (h : ShowsErased whole columns page messages lines p)
    → take p.row p.rows ≡ take page.row page.rows ++ message_rows whole columns page.width messages
rows_between whole columns page p messages lines inside h =
    let above = take page.row page.rows in
    let printed = message_rows whole columns page.width messages in
    let below = line_rows columns page.width lines ++ replicate h.blanks (blank_cells page.width) in
    let rows : p.rows ≡ (above ++ printed) ++ below = h.rows ∙ sym (append_assoc above printed below) in
    let rows_above : length above ≡ page.row = length-take-le page.row page.rows (omega arith) in
    let size : length (above ++ printed) ≡ length above + length printed = length-append above printed in
    let row : p.row ≡ length (above ++ printed) = omega (arith, h.row) in
    ap (λ (rs : List (List Cell)). take p.row rs) rows ∙ ap (λ (n : ℕ). take n ((above ++ printed) ++ below)) row ∙ take-append_seam (above ++ printed) below

-- the rows of messages after others
message_rows-append : (whole : Bool) (columns : ℕ → ℕ) (width : ℕ) (xs ys : List Line)
    → message_rows whole columns width (xs ++ ys) ≡ message_rows whole columns width xs ++ message_rows whole columns width ys
message_rows-append true columns width xs ys = flat_map-append (λ (line : Line). wrapped columns width (line_text line)) xs ys
message_rows-append false columns width xs ys = map-append (line_row columns width) xs ys

-- so messages come below those before them
then_erased : (whole : Bool) (columns : ℕ → ℕ) (page p after : Terminal) (before lines messages drawn : List Line) → page.row < length page.rows → ShowsErased whole columns page before lines p → ShowsErased whole columns p messages drawn after
    → ShowsErased whole columns page (before ++ messages) drawn after
then_erased whole columns page p after before lines messages drawn inside h k =
    let above = take page.row page.rows in
    let width : p.width ≡ page.width = h.size.width in
    let height : p.height ≡ page.height = h.size.height in
    let first = message_rows whole columns page.width before in
    let second = message_rows whole columns page.width messages in
    let below = line_rows columns page.width drawn ++ replicate k.blanks (blank_cells page.width) in
    let rows_kept : length page.rows ≤ length p.rows = h.kept in
    let joined = message_rows-append whole columns page.width before messages in
    let sum : length (message_rows whole columns page.width (before ++ messages)) ≡ length first + length second = ap length joined ∙ length-append first second in
    let down : after.row ≡ p.row + length second = k.row ∙ ap (λ (n : ℕ). p.row + length (message_rows whole columns n messages)) width in
    record {
      blanks = k.blanks;
      rows = k.rows
          ∙ ap (λ (n : ℕ). take p.row p.rows ++ (message_rows whole columns n messages ++ (line_rows columns n drawn ++ replicate k.blanks (blank_cells n)))) width
          ∙ ap (λ (rows : List (List Cell)). rows ++ (second ++ below)) (rows_between whole columns page p before lines inside h)
          ∙ append_assoc above first (second ++ below)
          ∙ ap (λ (rows : List (List Cell)). above ++ rows) (sym (append_assoc first second below))
          ∙ ap (λ (rows : List (List Cell)). above ++ (rows ++ below)) (sym joined);
      kept = omega (arith, k.kept);
      row = omega (arith, h.row);
      column = k.column;
      size = record {
        width = k.size.width ∙ width;
        height = k.size.height ∙ height;
        low = k.size.low;
        row = k.size.row;
        window = k.size.window;
      };
      wraps = k.wraps;
    }

-- whether or not frames have been shown before
since_erased : (whole : Bool) (columns : ℕ → ℕ) (page p after : Terminal) (before lines messages drawn : List Line) → page.row < length page.rows → ShowsSince whole columns page before lines p → ShowsErased whole columns p messages drawn after
    → ShowsSince whole columns page (before ++ messages) drawn after
since_erased whole columns page p after before lines messages drawn inside h k = ⊎_elim
    (λ same. inr (subst (λ (ls : List Line). ShowsErased whole columns page (ls ++ messages) drawn after) (sym same.0) (subst (λ (q : Terminal). ShowsErased whole columns q messages drawn after) same.2 k)))
    (λ shown. inr (then_erased whole columns page p after before lines messages drawn inside shown k)) h

-- by what the frame does after its messages
since_body : (whole : Bool) (columns : ℕ → ℕ) (page p after : Terminal) (before lines messages : List Line) (body : Body) → page.row < length page.rows → ShowsSince whole columns page before lines p → ShowsBody whole columns p messages body after
    → ShowsSince whole columns page (before ++ messages) (body_lines (drop (length messages) lines) body) after
since_body whole columns page p after before lines messages Unchanged inside h k =
    subst (λ (q : Terminal). ShowsSince whole columns page (before ++ messages) (drop (length messages) lines) q) (sym k.1)
    (subst (λ (ms : List Line). ShowsSince whole columns page (before ++ ms) (drop (length ms) lines) p) (sym k.0)
    (subst (λ (ms : List Line). ShowsSince whole columns page ms lines p) (sym (append-nil before)) h))
since_body whole columns page p after before lines messages (Draws drawn) inside h k = since_erased whole columns page p after before lines messages drawn inside h k
since_body whole columns page p after before lines messages (Closes ending) inside h k = since_erased whole columns page p after before lines messages [] inside h k

size_since : (whole : Bool) (columns : ℕ → ℕ) (page p : Terminal) (messages lines : List Line) → HasSize (page.width, page.height) page → ShowsSince whole columns page messages lines p → HasSize (page.width, page.height) p
size_since whole columns page p messages lines size h =
    ⊎_elim (λ same. subst (λ (q : Terminal). HasSize (page.width, page.height) q) (sym same.2) size) (λ shown. shown.size) h

-- a frame that erases rows, with whole messages or not: its signs over lines of some widths, which are proper if its characters are scalar values
record ErasesProperly (whole : Bool) (f : AcceptedFrame) : Type 0 where
  widths : List ℕ
  signs : f.signs ≡ frame_signs widths f.frame
  erases : 0 < f.size.1 → ErasesRows f.size.1 whole f.frame
  proper : HasScalars f.frame → AreProper f.signs

-- frames after others
since_frames : (whole : Bool) (columns : ℕ → ℕ) (page p : Terminal) (before lines : List Line) (frames : List AcceptedFrame) → AllByRecursion (λ f. HasSize f.size page) frames
    → ShowsSince whole columns page before lines p → AllByRecursion (ErasesProperly whole) frames
    → ShowsSince whole columns page (before ++ printed_lines (frames_in frames)) (all_lines_after lines (frames_in frames)) (terminal_after columns (signs_in_turn frames) p)
since_frames whole columns page p before lines [] has h erase = subst (λ (ms : List Line). ShowsSince whole columns page ms lines p) (sym (append-nil before)) h
since_frames whole columns page p before lines (f ∷ fs) has h erase =
    let given = has.0 in
    let size : HasSize (page.width, page.height) page = record { width = refl; height = refl; low = given.low; row = given.row; window = given.window } in
    let high : 0 < f.size.1 = omega (arith, given.height, given.row, given.window) in
    let erases : ErasesRows page.height whole f.frame = subst (λ (n : ℕ). ErasesRows n whole f.frame) (sym given.height) (erase.0.erases high) in
    let after = terminal_after columns f.signs p in
    let shown : ShowsBody whole columns p f.frame.messages f.frame.body after =
    subst (λ (signs : List Sign). ShowsBody whole columns p f.frame.messages f.frame.body (terminal_after columns signs p)) (sym erase.0.signs)
    (shows_frame columns (page.width, page.height) whole p erase.0.widths f.frame (size_since whole columns page p before lines size h) erases) in
    let one = since_body whole columns page p after before lines f.frame.messages f.frame.body given.row h shown in
    let others = since_frames whole columns page after (before ++ f.frame.messages) (lines_after lines f.frame) fs has.1 one erase.1 in
    subst (λ (q : Terminal). ShowsSince whole columns page (before ++ printed_lines (frames_in (f ∷ fs))) (all_lines_after lines (frames_in (f ∷ fs))) q) (sym (terminal_after-append columns f.signs (signs_in_turn fs) p))
    (subst (λ (ms : List Line). ShowsSince whole columns page ms (all_lines_after (lines_after lines f.frame) (frames_in fs)) (terminal_after columns (signs_in_turn fs) after))
    (append_assoc before f.frame.messages (printed_lines (frames_in fs))) others)

-- ---- the frames of a list of inputs

-- a renderer that erases rows, with whole messages or not
record Erases (whole : Bool) (options : Options) : Type 0 where
  erasing : erases_rows options ≡ true
  messages : options.whole_messages ≡ whole

still : (whole : Bool) (r : Renderer) (input : Input) → Erases whole r.options → Erases whole (remember r input).options
still whole r (Tick at show (Some seen)) h = h
still whole r (Tick at show None) h = h
still whole r (Resize at show columns rows) h = record { erasing = h.erasing; messages = h.messages }
still whole r (Quit at) h = h

-- a frame that such a renderer draws, with those after it
then_each : (whole : Bool) (r : Renderer) (input : Input) (result : Result Answer Refusal) (others : List AcceptedFrame) → Erases whole r.options
    → AllByRecursion (ErasesProperly whole) others → AllByRecursion (ErasesProperly whole) (accepted_by r input result ++ others)
then_each whole r input (Ok answer) others h more =
    let one : ErasesProperly whole (record { size = (remember r input).options.terminal_dimensions; frame = frame_at r input; signs = frame_signs r.widths (frame_at r input) }) =
    record {
      widths = r.widths;
      signs = refl;
      erases = λ high. subst (λ (b : Bool). ErasesRows (remember r input).options.terminal_dimensions.1 b (frame_at r input)) h.messages (frame_erases r input h.erasing high);
      proper = erased_proper r input r.widths h.erasing;
    } in
    (one, more)
then_each whole r input (Err refusal) others h more = more

all_erase : (whole : Bool) (r : Renderer) (xs : List Rendering) → Erases whole r.options → AllByRecursion (ErasesProperly whole) (accepted_frames r xs)
all_erase whole r [] h = tt
all_erase whole r (x ∷ xs) h =
    then_each whole r x.input x.result (accepted_frames (renderer_after r x) xs) h (all_erase whole (renderer_after r x) xs (options_after (Erases whole) r x.input x.result h (still whole r x.input h)))

all_proper : (whole : Bool) (frames : List AcceptedFrame) → AllByRecursion (ErasesProperly whole) frames → AllByRecursion HasScalars (frames_in frames) → AreProper (signs_in_turn frames)
all_proper whole [] erase scalars = tt
all_proper whole (f ∷ fs) erase scalars = AllByRecursion-append IsProper f.signs _ (erase.0.proper scalars.0) (all_proper whole fs erase.1 scalars.1)

-- frames that follow one another show in turn
some_show : (whole : Bool) (frames before some after : List AcceptedFrame) → frames ≡ before ++ (some ++ after) → AllByRecursion (ErasesProperly whole) frames → ShowInTurn whole some
some_show whole frames before some after e erase =
    let P : AcceptedFrame → Type 0 = ErasesProperly whole in
    let from = (AllByRecursion-parts P before (some ++ after) (subst (λ (fs : List AcceptedFrame). AllByRecursion P fs) e erase)).1 in
    let these = (AllByRecursion-parts P some after from).0 in
    λ columns page has. since_frames whole columns page page [] [] some has (inl (refl, refl, refl)) these

-- ---- what is written

-- a renderer whose screen is broken accepts no frame
none_accepted : (r : Renderer) (s : ScreenState) (xs : List Rendering) (s' : ScreenState) → r.ended ≡ Some refusals.Broken → RendersAll r s xs s' → accepted_frames r xs ≡ []
none_accepted r s [] s' b h = refl
none_accepted r s (x ∷ xs) s' b h =
    let one = (broken_refuses r s x.input x.result h.0 b h.1).0 in
    let ended : (renderer_after r x).ended ≡ Some refusals.Broken = ap (λ result. (after_result r x.input result).ended) one in
    ap (λ result. accepted_by r x.input result ++ accepted_frames (renderer_after r x) xs) one ∙ none_accepted (renderer_after r x) h.0 xs s' ended h.3

-- the screen has broken during a frame, of which it has taken these bytes
writes_rest : (r : Renderer) (s s₁ : ScreenState) (xs : List Rendering) (s' : ScreenState) (rest : List ℕ) → r.ended ≡ Some refusals.Broken
    → s₁.bytes ≡ s.bytes ++ rest → (s'.broken ≡ false → rest ≡ []) → RendersAll r s₁ xs s' → WritesInTurn (accepted_frames r xs) s s'
writes_rest r s s₁ xs s' rest ended taken none h =
    subst (λ (fs : List AcceptedFrame). WritesInTurn fs s s') (sym (none_accepted r s₁ xs s' ended h)) (rest, (refuses_all r s₁ xs s' ended h).1 ∙ taken, none)

writes_step : (r : Renderer) (s : ScreenState) (input : Input) (result : Result Answer Refusal) (s₁ : ScreenState) (xs : List Rendering) (s' : ScreenState)
    → Renders r input s result (after_result r input result) s₁ → RendersAll (after_result r input result) s₁ xs s'
    → WritesInTurn (accepted_frames (after_result r input result) xs) s₁ s'
    → WritesInTurn (accepted_by r input result ++ accepted_frames (after_result r input result) xs) s s'
writes_step r s input (Ok answer) s₁ xs s' h hs more =
    let signs = frame_signs r.widths (frame_at r input) in
    let others = signs_in_turn (accepted_frames (next_renderer r input) xs) in
    let joined : spelling (signs ++ others) ≡ spelling signs ++ spelling others = flat_map-append spelling_of signs others in (
      more.0,
      more.1
          ∙ ap (λ (bytes : List ℕ). bytes ++ (spelling others ++ more.0)) h.screen.bytes
          ∙ append_assoc s.bytes (spelling signs) (spelling others ++ more.0)
          ∙ ap (λ (bytes : List ℕ). s.bytes ++ bytes) (sym (append_assoc (spelling signs) (spelling others) more.0) ∙ ap (λ (bytes : List ℕ). bytes ++ more.0) (sym joined)),
      more.2,
    )
writes_step r s input (Err refusals.Memory) s₁ xs s' h hs more = subst (λ (q : ScreenState). WritesInTurn (accepted_frames r xs) q s') h.screen more
writes_step r s input (Err refusals.Closed) s₁ xs s' h hs more = subst (λ (q : ScreenState). WritesInTurn (accepted_frames r xs) q s') h.screen more
writes_step r s input (Err refusals.Broken) s₁ xs s' h hs more =
    let r₁ = after_result r input (Err refusals.Broken) in ⊎_elim
    (λ refuses. writes_rest r₁ s s₁ xs s' [] refl (ap (λ q. q.bytes) refuses.screen ∙ sym (append-nil s.bytes)) (λ whole. refl) hs)
    (λ breaks. writes_rest r₁ s s₁ xs s' (take breaks.screen.prefix.0 (frame_bytes r input)) refl breaks.screen.prefix.2
    (λ whole. absurd (true_is_not_false s₁.broken breaks.screen.broken (was_unbroken r₁ s₁ xs s' hs whole))) hs) h
writes_step r s input (Err refusals.Gone) s₁ xs s' h hs more = absurd h
writes_step r s input (Err refusals.TooManyMessages) s₁ xs s' h hs more = absurd h
writes_step r s input (Err refusals.TooManyHandles) s₁ xs s' h hs more = absurd h
writes_step r s input (Err refusals.NoThread) s₁ xs s' h hs more = absurd h

writes_in_turn : (r : Renderer) (s : ScreenState) (xs : List Rendering) (s' : ScreenState) → RendersAll r s xs s' → WritesInTurn (accepted_frames r xs) s s'
writes_in_turn r s [] s' h = ([], ap (λ q. q.bytes) h ∙ sym (append-nil s.bytes), λ whole. refl)
writes_in_turn r s (x ∷ xs) s' h = writes_step r s x.input x.result h.0 xs s' h.1 h.3 (writes_in_turn (renderer_after r x) h.0 xs s' h.3)

-- frames that follow one another, of a renderer that erases rows
pub erases_in_turn : (r : Renderer) (s : ScreenState) (xs : List Rendering) (s' : ScreenState) → RendersAll r s xs s' → erases_rows r.options ≡ true → ErasesInTurn r xs s s'
erases_in_turn r s xs s' h erasing =
    let whole = r.options.whole_messages in
    let frames = accepted_frames r xs in
    let erase = all_erase whole r xs (record { erasing = erasing; messages = refl }) in
    record {
      written = writes_in_turn r s xs s' h;
      proper = all_proper whole frames erase;
      shows = λ before some after e. some_show whole frames before some after e erase;
    }
