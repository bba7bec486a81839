-- What a list of inputs to one renderer writes.
use Rattle.std.proofs.Common.{◌≡◌, ℕ, Bool, true, false, cond, List, [], ◌∷◌, ◌++◌, length, take, refl, sym, ap, subst, ◌∙◌, append_assoc, append-nil, Result, Ok, Err, Option, Some, None, ⊎_elim, inl, inr, arith}
use Rattle.std.specs.Prelude.{⊤, IsTrue, drop}
use Rattle.std.specs.List.{AllByRecursion}
use Rattle.std.proofs.lemmas.List.{drop-map, nil_from_length}
use Rattle.std.proofs.lemmas.Bool.{false_from_ne_true}
use Rattle.std.proofs.lemmas.Bool.Decides.{nat_tests}
use Rattle.prodash_base.specs.declared.refusal.Refusal.{Refusal}
use Rattle.prodash_base.specs.declared.refusal.Refusal.TheVariants as refusals
use Rattle.prodash_line.specs.declared.render.line.draw.input.Options.{Options}
use Rattle.prodash_line.specs.declared.render.line.draw.input.Input.{Input}
use Rattle.prodash_line.specs.declared.render.line.draw.input.Answer.{Answer}
use Rattle.prodash_line.specs.Signs.{spelling}
use Rattle.prodash_line.specs.Lines.{Line, columns_of}
use Rattle.prodash_line.specs.Frames.{Frame, frame_signs, lines_after, body_lines, widths_of}
use Rattle.prodash_line.specs.declared.render.line.page.sign.Sign.{Sign}
use Rattle.prodash_line.specs.declared.render.line.draw.action.Action.{Action}
use Rattle.prodash_line.specs.declared.render.line.draw.action.Action.TheVariants.{Leave, Redraw, Erase, Close}
use Rattle.prodash_line.specs.Renderer.{Renderer, Renders, Drawing, remember, frame_at, frame_bytes, next_renderer, action_at, drawing_at, printed_at, ending_of, body_of, state_after}
use Rattle.prodash_line.specs.Screens.{ScreenState, WritesFrame, has_bytes}
use Rattle.prodash_line.specs.Renderings.{Rendering, after_result, renderer_after, RendersEach, BreaksExactly, FlushesFrame, Attempt, attempt_of, attempts_of, frames_of, bytes_over, AllBroken, WritesAttempts}
use Rattle.prodash_line.specs.plumbing.RenderedInputs.{RendersAll}

-- what holds of each rendering by itself holds of each in a list
pub each : (P : Renderer → ScreenState → Rendering → ScreenState → Type 0)
    → ((r : Renderer) (s : ScreenState) (x : Rendering) (s' : ScreenState) → Renders r x.input s x.result (renderer_after r x) s' → P r s x s')
    → (r : Renderer) (s : ScreenState) (xs : List Rendering) (s' : ScreenState) → RendersAll r s xs s' → RendersEach P r s xs s'
each P one r s [] s' h = h
each P one r s (x ∷ xs) s' h = (h.0, h.1, one r s x h.0 h.1, each P one (renderer_after r x) h.0 xs s' h.3)

-- the refusals are different, and so are no refusal and one
abbrev pub IsBroken : Option Refusal → Type 0
IsBroken (Some refusals.Broken) = ⊤
IsBroken _ = ⊥

abbrev IsRunning : Option Refusal → Type 0
IsRunning None = ⊤
IsRunning (Some refusal) = ⊥

ended_not_running : (ended : Option Refusal) (refusal : Refusal) → ended ≡ None → ended ≡ Some refusal → ⊥
ended_not_running ended refusal n e = subst IsRunning (sym n ∙ e) tt

closed_not_broken : (ended : Option Refusal) → ended ≡ Some refusals.Closed → ended ≡ Some refusals.Broken → ⊥
closed_not_broken ended c b = subst IsBroken (sym b ∙ c) tt

pub true_is_not_false : (b : Bool) → b ≡ true → b ≡ false → ⊥
true_is_not_false b t f = cc

-- of all that is returned only `Broken` is `Broken`, and a refusal is no answer
abbrev IsBrokenResult : Result Answer Refusal → Type 0
IsBrokenResult (Err refusals.Broken) = ⊤
IsBrokenResult _ = ⊥

abbrev IsOkResult : Result Answer Refusal → Type 0
IsOkResult (Ok answer) = ⊤
IsOkResult (Err refusal) = ⊥

breaks_exactly_once : (r : Renderer) (s : ScreenState) (input : Input) (result : Result Answer Refusal) (s' : ScreenState)
    → Renders r input s result (after_result r input result) s' → BreaksExactly r s (record { input = input; result = result }) s'
breaks_exactly_once r s input (Ok answer) s' h = (
  λ e. absurd (subst IsBrokenResult (sym e) tt),
  ⊎_elim (λ ended. absurd (ended_not_running r.ended refusals.Broken h.running ended))
      (λ now. absurd (true_is_not_false s'.broken now.broken (h.screen.broken ∙ h.screen.healthy now.some))),
)
breaks_exactly_once r s input (Err refusals.Memory) s' h = (
  λ e. absurd (subst IsBrokenResult (sym e) tt),
  ⊎_elim (λ ended. absurd (ended_not_running r.ended refusals.Broken h.running ended)) (λ now. absurd (now.memory refl)),
)
breaks_exactly_once r s input (Err refusals.Closed) s' h = (
  λ e. absurd (subst IsBrokenResult (sym e) tt),
  ⊎_elim (λ ended. absurd (closed_not_broken r.ended h.ended ended)) (λ now. absurd (ended_not_running r.ended refusals.Closed now.running h.ended)),
)
breaks_exactly_once r s input (Err refusals.Broken) s' h = (
  λ e. ⊎_elim (λ refuses. inl refuses.ended)
      (λ breaks. inr (record { running = breaks.running; memory = λ e. subst IsBrokenResult e tt; some = breaks.screen.some; broken = breaks.screen.broken })) h,
  λ before. refl,
)
breaks_exactly_once r s input (Err refusals.Gone) s' h = absurd h
breaks_exactly_once r s input (Err refusals.TooManyMessages) s' h = absurd h
breaks_exactly_once r s input (Err refusals.TooManyHandles) s' h = absurd h
breaks_exactly_once r s input (Err refusals.NoThread) s' h = absurd h

-- `Broken` is returned exactly if it was returned before or the screen breaks
pub breaks_exactly : (r : Renderer) (s : ScreenState) (xs : List Rendering) (s' : ScreenState) → RendersAll r s xs s' → RendersEach BreaksExactly r s xs s'
breaks_exactly = each BreaksExactly (λ r s x s' h. breaks_exactly_once r s x.input x.result s' h)

-- a frame with bytes that was written is flushed
written_is_flushed : (frame : List ℕ) (s s' : ScreenState) → WritesFrame frame s s' → IsTrue (has_bytes frame) → s'.flushed ≡ s'.bytes
written_is_flushed frame s s' h some = h.flushed ∙ ap (λ b. cond b s'.bytes s.flushed) some

flushes_once : (r : Renderer) (s : ScreenState) (input : Input) (result : Result Answer Refusal) (s' : ScreenState)
    → Renders r input s result (after_result r input result) s' → FlushesFrame r s (record { input = input; result = result }) s'
flushes_once r s input (Ok answer) s' h = record { flushed = λ given e some. written_is_flushed (frame_bytes r input) s s' h.screen some }
flushes_once r s input (Err refusal) s' h = record { flushed = λ given e some. absurd (subst IsOkResult (sym e) tt) }

-- each accepted frame with bytes is flushed
pub flushes_each : (r : Renderer) (s : ScreenState) (xs : List Rendering) (s' : ScreenState) → RendersAll r s xs s' → RendersEach FlushesFrame r s xs s'
flushes_each = each FlushesFrame (λ r s x s' h. flushes_once r s x.input x.result s' h)

-- a broken screen stays so
broken_once : (r : Renderer) (s : ScreenState) (input : Input) (result : Result Answer Refusal) (s' : ScreenState)
    → Renders r input s result (after_result r input result) s' → s.broken ≡ true → s'.broken ≡ true
broken_once r s input (Ok answer) s' h b = h.screen.broken ∙ b
broken_once r s input (Err refusals.Memory) s' h b = ap (λ q. q.broken) h.screen ∙ b
broken_once r s input (Err refusals.Closed) s' h b = ap (λ q. q.broken) h.screen ∙ b
broken_once r s input (Err refusals.Broken) s' h b = ⊎_elim (λ refuses. ap (λ q. q.broken) refuses.screen ∙ b) (λ breaks. breaks.screen.broken) h
broken_once r s input (Err refusals.Gone) s' h b = absurd h
broken_once r s input (Err refusals.TooManyMessages) s' h b = absurd h
broken_once r s input (Err refusals.TooManyHandles) s' h b = absurd h
broken_once r s input (Err refusals.NoThread) s' h b = absurd h

pub stays_broken : (r : Renderer) (s : ScreenState) (xs : List Rendering) (s' : ScreenState) → RendersAll r s xs s' → s.broken ≡ true → s'.broken ≡ true
stays_broken r s [] s' h b = ap (λ q. q.broken) h ∙ b
stays_broken r s (x ∷ xs) s' h b = stays_broken (renderer_after r x) h.0 xs s' h.3 (broken_once r s x.input x.result h.0 h.1 b)

-- and one that isn't broken was not before
pub was_unbroken : (r : Renderer) (s : ScreenState) (xs : List Rendering) (s' : ScreenState) → RendersAll r s xs s' → s'.broken ≡ false → s.broken ≡ false
was_unbroken r s xs s' h whole = false_from_ne_true s.broken (λ b. true_is_not_false s'.broken (stays_broken r s xs s' h b) whole)

-- a screen that flushed all that it had taken has flushed this frame too
flushed_after : (frame : List ℕ) (s s' : ScreenState) (b : Bool) → has_bytes frame ≡ b → WritesFrame frame s s' → s.flushed ≡ s.bytes → s'.flushed ≡ s'.bytes
flushed_after frame s s' true e wrote flushed = written_is_flushed frame s s' wrote e
flushed_after frame s s' false e wrote flushed =
    let none : frame ≡ [] = nil_from_length frame (grind (arith, nat_tests)) in
    wrote.flushed ∙ ap (λ q. cond q s'.bytes s.flushed) e ∙ flushed ∙ sym (append-nil s.bytes) ∙ ap (λ f. s.bytes ++ f) (sym none) ∙ sym wrote.bytes

flushed_once : (r : Renderer) (s : ScreenState) (input : Input) (result : Result Answer Refusal) (s' : ScreenState)
    → Renders r input s result (after_result r input result) s' → s'.broken ≡ false → s.flushed ≡ s.bytes → s'.flushed ≡ s'.bytes
flushed_once r s input (Ok answer) s' h whole flushed = flushed_after (frame_bytes r input) s s' (has_bytes (frame_bytes r input)) refl h.screen flushed
flushed_once r s input (Err refusals.Memory) s' h whole flushed = subst (λ (q : ScreenState). q.flushed ≡ q.bytes) (sym h.screen) flushed
flushed_once r s input (Err refusals.Closed) s' h whole flushed = subst (λ (q : ScreenState). q.flushed ≡ q.bytes) (sym h.screen) flushed
flushed_once r s input (Err refusals.Broken) s' h whole flushed = ⊎_elim
    (λ refuses. subst (λ (q : ScreenState). q.flushed ≡ q.bytes) (sym refuses.screen) flushed)
    (λ breaks. absurd (true_is_not_false s'.broken breaks.screen.broken whole)) h
flushed_once r s input (Err refusals.Gone) s' h whole flushed = absurd h
flushed_once r s input (Err refusals.TooManyMessages) s' h whole flushed = absurd h
flushed_once r s input (Err refusals.TooManyHandles) s' h whole flushed = absurd h
flushed_once r s input (Err refusals.NoThread) s' h whole flushed = absurd h

-- a screen that isn't broken has flushed all that it took, if it had before
pub stays_flushed : (r : Renderer) (s : ScreenState) (xs : List Rendering) (s' : ScreenState) → RendersAll r s xs s' → s.flushed ≡ s.bytes → s'.broken ≡ false → s'.flushed ≡ s'.bytes
stays_flushed r s [] s' h flushed whole = subst (λ (q : ScreenState). q.flushed ≡ q.bytes) (sym h) flushed
stays_flushed r s (x ∷ xs) s' h flushed whole =
    let before = was_unbroken (renderer_after r x) h.0 xs s' h.3 whole in
    stays_flushed (renderer_after r x) h.0 xs s' h.3 (flushed_once r s x.input x.result h.0 h.1 before flushed) whole

-- a renderer that has ended because the screen broke refuses every frame, and writes nothing
pub broken_refuses : (r : Renderer) (s : ScreenState) (input : Input) (result : Result Answer Refusal) (s' : ScreenState) → r.ended ≡ Some refusals.Broken
    → Renders r input s result (after_result r input result) s' → (result ≡ Err refusals.Broken) × (s'.bytes ≡ s.bytes)
broken_refuses r s input (Ok answer) s' b h = absurd (ended_not_running r.ended refusals.Broken h.running b)
broken_refuses r s input (Err refusals.Memory) s' b h = absurd (ended_not_running r.ended refusals.Broken h.running b)
broken_refuses r s input (Err refusals.Closed) s' b h = absurd (closed_not_broken r.ended h.ended b)
broken_refuses r s input (Err refusals.Broken) s' b h =
    (refl, ⊎_elim (λ refuses. ap (λ q. q.bytes) refuses.screen) (λ breaks. absurd (ended_not_running r.ended refusals.Broken breaks.running b)) h)
broken_refuses r s input (Err refusals.Gone) s' b h = absurd h
broken_refuses r s input (Err refusals.TooManyMessages) s' b h = absurd h
broken_refuses r s input (Err refusals.TooManyHandles) s' b h = absurd h
broken_refuses r s input (Err refusals.NoThread) s' b h = absurd h

pub refuses_all : (r : Renderer) (s : ScreenState) (xs : List Rendering) (s' : ScreenState) → r.ended ≡ Some refusals.Broken → RendersAll r s xs s'
    → AllBroken (attempts_of r xs) × (s'.bytes ≡ s.bytes)
refuses_all r s [] s' b h = (tt, ap (λ q. q.bytes) h)
refuses_all r s (x ∷ xs) s' b h =
    let one = broken_refuses r s x.input x.result h.0 b h.1 in
    let ended : (renderer_after r x).ended ≡ Some refusals.Broken = ap (λ result. (after_result r x.input result).ended) one.0 in
    let others = refuses_all (renderer_after r x) h.0 xs s' ended h.3 in (
      subst AllBroken (sym (ap (λ result. attempt_of (frame_at r x.input) result ++ attempts_of (renderer_after r x) xs) one.0)) (refl, others.0),
      others.1 ∙ one.1,
    )

-- the widths that a frame leaves are those of the lines after it
state_widths : (action : Action) (r : Renderer) (drawing : Drawing) (ending : List Sign) (lines : List Line)
    → (state_after action r drawing (widths_of lines)).widths ≡ widths_of (body_lines lines (body_of action drawing ending))
state_widths Leave r drawing ending lines = refl
state_widths Redraw r drawing ending lines = refl
state_widths Erase r drawing ending lines = refl
state_widths Close r drawing ending lines = refl

-- so the lines after it are those on screen
pub next_widths : (r : Renderer) (input : Input) (lines : List Line) → r.widths ≡ widths_of lines → (next_renderer r input).widths ≡ widths_of (lines_after lines (frame_at r input))
next_widths r input lines same =
    let count = length (printed_at r input) in
    ap (λ widths. (state_after (action_at r input) r (drawing_at r input) widths).widths) (ap (λ widths. drop count widths) same ∙ drop-map columns_of count lines)
    ∙ state_widths (action_at r input) r (drawing_at r input) (ending_of r) (drop count lines)

-- what is written over these lines
abbrev Writes : Renderer → ScreenState → List Line → List Rendering → ScreenState → Type 0
Writes r s lines xs s' = (bytes : List ℕ) × (s'.bytes ≡ s.bytes ++ bytes) × WritesAttempts lines (attempts_of r xs) bytes

-- a prefix of a frame, and nothing of the others
writes_prefix : (r : Renderer) (s : ScreenState) (input : Input) (s₁ : ScreenState) (xs : List Rendering) (s' : ScreenState) (lines : List Line) (n : ℕ)
    → r.widths ≡ widths_of lines → s₁.bytes ≡ s.bytes ++ take n (frame_bytes r input) → RendersAll (after_result r input (Err refusals.Broken)) s₁ xs s'
    → Writes r s lines (record { input = input; result = Err refusals.Broken } ∷ xs) s'
writes_prefix r s input s₁ xs s' lines n same prefix h =
    let others = refuses_all (after_result r input (Err refusals.Broken)) s₁ xs s' refl h in
    (take n (frame_bytes r input), others.1 ∙ prefix, (n, ap (λ widths. take n (spelling (frame_signs widths (frame_at r input)))) same, others.0))

-- the first of the inputs, and then the others
writes_step : (r : Renderer) (s : ScreenState) (input : Input) (result : Result Answer Refusal) (s₁ : ScreenState) (xs : List Rendering) (s' : ScreenState) (lines : List Line)
    → r.widths ≡ widths_of lines → Renders r input s result (after_result r input result) s₁ → RendersAll (after_result r input result) s₁ xs s'
    → ((ls : List Line) → (after_result r input result).widths ≡ widths_of ls → Writes (after_result r input result) s₁ ls xs s')
    → Writes r s lines (record { input = input; result = result } ∷ xs) s'
writes_step r s input (Ok answer) s₁ xs s' lines same h hs more =
    let frame = frame_at r input in
    let others = more (lines_after lines frame) (next_widths r input lines same) in
    let whole : frame_bytes r input ≡ bytes_over lines frame = ap (λ widths. spelling (frame_signs widths frame)) same in (
      frame_bytes r input ++ others.0,
      others.1 ∙ ap (λ bytes. bytes ++ others.0) h.screen.bytes ∙ append_assoc s.bytes (frame_bytes r input) others.0,
      (others.0, ap (λ bytes. bytes ++ others.0) whole, others.2),
    )
writes_step r s input (Err refusals.Memory) s₁ xs s' lines same h hs more =
    let others = more lines same in (others.0, others.1 ∙ ap (λ q. q.bytes ++ others.0) h.screen, others.2)
writes_step r s input (Err refusals.Closed) s₁ xs s' lines same h hs more =
    let others = more lines same in (others.0, others.1 ∙ ap (λ q. q.bytes ++ others.0) h.screen, others.2)
writes_step r s input (Err refusals.Broken) s₁ xs s' lines same h hs more = ⊎_elim
    (λ refuses. writes_prefix r s input s₁ xs s' lines 0 same (ap (λ q. q.bytes) refuses.screen ∙ sym (append-nil s.bytes)) hs)
    (λ breaks. writes_prefix r s input s₁ xs s' lines breaks.screen.prefix.0 same breaks.screen.prefix.2 hs) h
writes_step r s input (Err refusals.Gone) s₁ xs s' lines same h hs more = absurd h
writes_step r s input (Err refusals.TooManyMessages) s₁ xs s' lines same h hs more = absurd h
writes_step r s input (Err refusals.TooManyHandles) s₁ xs s' lines same h hs more = absurd h
writes_step r s input (Err refusals.NoThread) s₁ xs s' lines same h hs more = absurd h

-- the frames are written over the lines on screen
pub writes_attempts : (r : Renderer) (s : ScreenState) (xs : List Rendering) (s' : ScreenState) (lines : List Line) → RendersAll r s xs s' → r.widths ≡ widths_of lines
    → (bytes : List ℕ) × (s'.bytes ≡ s.bytes ++ bytes) × WritesAttempts lines (attempts_of r xs) bytes
writes_attempts r s [] s' lines h same = ([], ap (λ q. q.bytes) h ∙ sym (append-nil s.bytes), refl)
writes_attempts r s (x ∷ xs) s' lines h same = writes_step r s x.input x.result h.0 xs s' lines same h.1 h.3 (λ ls e. writes_attempts (renderer_after r x) h.0 xs s' ls h.3 e)

-- ---- what holds after an input

-- of the options, if it holds of them and of those with what is remembered of the input
pub options_after : (P : Options → Type 0) (r : Renderer) (input : Input) (result : Result Answer Refusal) → P r.options → P (remember r input).options
    → P (after_result r input result).options
options_after P r input (Ok answer) old new = new
options_after P r input (Err refusals.Broken) old new = old
options_after P r input (Err refusals.Memory) old new = old
options_after P r input (Err refusals.Closed) old new = old
options_after P r input (Err refusals.Gone) old new = old
options_after P r input (Err refusals.TooManyMessages) old new = old
options_after P r input (Err refusals.TooManyHandles) old new = old
options_after P r input (Err refusals.NoThread) old new = old

-- of each frame that is drawn, if it holds of the frame of the input and of those after it
pub frames_after : (P : Frame → Type 0) (frame : Frame) (result : Result Answer Refusal) (attempts : List Attempt) → P frame
    → AllByRecursion P (frames_of attempts) → AllByRecursion P (frames_of (attempt_of frame result ++ attempts))
frames_after P frame (Ok answer) attempts one others = (one, others)
frames_after P frame (Err refusals.Broken) attempts one others = (one, others)
frames_after P frame (Err refusals.Memory) attempts one others = others
frames_after P frame (Err refusals.Closed) attempts one others = others
frames_after P frame (Err refusals.Gone) attempts one others = others
frames_after P frame (Err refusals.TooManyMessages) attempts one others = others
frames_after P frame (Err refusals.TooManyHandles) attempts one others = others
frames_after P frame (Err refusals.NoThread) attempts one others = others
