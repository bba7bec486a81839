-- Laws of whole runs: how a run goes on, what it renders, its prefixes, the steps at each place, and the run of the events that did not run out of memory.
use Rattle.std.proofs.Common.{◌≡◌, ◌∙◌, ap, sym, subst, ℕ, zero, suc, ◌<◌, ◌++◌, ◌∷◌, [], List, refl, append_assoc, append-nil, take, length, Bool, true, false, cond, Result, Ok, arith}
use Rattle.std.specs.Prelude.{is_ok}
use Rattle.std.proofs.lemmas.List.{nil_from_length}
use Rattle.prodash_line.specs.plumbing.RenderedInputs.{RendersAll}
use Rattle.prodash_line.specs.Screens.{ScreenState}
use Rattle.prodash_core.specs.Trees.{Effect, OnTree, OnRenderer, Outcome, effect_of}
use Rattle.prodash_core.specs.Sessions.{SessionState, is_memory, tree_after, StepsBy, Steps}
use Rattle.prodash_core.specs.Runs.{Run, StepsAt, next_by, next_session, session_after, events_with_memory, replies_with_memory, rendering_by, renderings_from}
use Rattle.prodash_core.proofs.StepLaws.{frame_renders, step_next, step_idle, screen_stays}
use Rattle.prodash_core.specs.declared.tree.event.Event.{Event}
use Rattle.prodash_core.specs.declared.tree.event.Reply.{Reply}

-- whatever replies to the events that are left completes the run
abbrev pub Completes : SessionState → ScreenState → List Event → List Reply → SessionState → ScreenState → List Event → Type 0
Completes w₀ s₀ all replies w s left = (more : List Reply) (t : ScreenState) → Run w s left more t → Run w₀ s₀ all (replies ++ more) t

pub completes_more : (w₀ : SessionState) (s₀ : ScreenState) (all : List Event) (replies : List Reply) (w : SessionState) (s : ScreenState) (left : List Event)
    → Completes w₀ s₀ all replies w s left → (event : Event) (others : List Event) → left ≡ event ∷ others
    → (reply : Reply) (w₁ : SessionState) (s₁ : ScreenState) → Steps w s event reply w₁ s₁
    → (pushed : List Reply) → pushed ≡ replies ++ reply ∷ []
    → Completes w₀ s₀ all pushed w₁ s₁ others
completes_more w₀ s₀ all replies w s left c event others e reply w₁ s₁ step pushed p = λ more t r.
    let next = step_next w s event reply w₁ s₁ step in
    let here = subst (λ q. Steps w s event reply q s₁) next step in
    let later = subst (λ q. Run q s₁ others more t) next r in
    let whole : Run w s left (reply ∷ more) t = subst (λ (es : List Event). Run w s es (reply ∷ more) t) (sym e) (s₁, here, later) in
    let same : pushed ++ more ≡ replies ++ reply ∷ more = ap (λ xs. xs ++ more) p ∙ append_assoc replies (reply ∷ []) more in
    subst (λ (rs : List Reply). Run w₀ s₀ all rs t) (sym same) (c (reply ∷ more) t whole)

pub completes_all : (w₀ : SessionState) (s₀ : ScreenState) (all : List Event) (replies : List Reply) (w : SessionState) (s : ScreenState) (left : List Event)
    → Completes w₀ s₀ all replies w s left → length left ≡ 0 → Run w₀ s₀ all replies s
completes_all w₀ s₀ all replies w s left c e =
    let none : Run w s left [] s = subst (λ (es : List Event). Run w s es [] s) (sym (nil_from_length left e)) refl in
    subst (λ (rs : List Reply). Run w₀ s₀ all rs s) (append-nil replies) (c [] s none)

-- what a push that succeeded leaves
pub pushed_is : {E X : Type 0} (r : Result X E) (x : X) (xs ys zs : List Reply) → r ≡ Ok x → xs ≡ cond (is_ok r) ys zs → xs ≡ ys
pushed_is r x xs ys zs e h = h ∙ ap (λ q. cond (is_ok q) ys zs) e

same_renderer : (w : SessionState) (outcome : Outcome) (b : Bool) → (cond b w (record w { tree = tree_after w.tree outcome })).renderer ≡ w.renderer
same_renderer w outcome true = refl
same_renderer w outcome false = refl

renders_more : (f : Effect) (w : SessionState) (s : ScreenState) (r : Reply) (es : List Event) (rs : List Reply) (w₁ : SessionState) (s₁ s' : ScreenState) → StepsBy f w s r w₁ s₁
    → RendersAll (next_by f w r).renderer s₁ (renderings_from (next_by f w r) es rs) s'
    → RendersAll w.renderer s (rendering_by f w r ++ renderings_from (next_by f w r) es rs) s'
renders_more (OnTree memory outcome) w s r es rs w₁ s₁ s' step more =
    let next = next_by (OnTree memory outcome) w r in
    subst (λ q. RendersAll q s (renderings_from next es rs) s') (same_renderer w outcome (is_memory r))
    (subst (λ q. RendersAll next.renderer q (renderings_from next es rs) s') (screen_stays w s memory outcome r w₁ s₁ step) more)
renders_more (OnRenderer input) w s r es rs w₁ s₁ s' step more = (s₁, frame_renders w (input w.renderer.seen) s r w₁ s₁ step, tt, more)

-- a run renders the inputs of its frames
pub run_renders : (es : List Event) (rs : List Reply) (w : SessionState) (s s' : ScreenState) → Run w s es rs s' → RendersAll w.renderer s (renderings_from w es rs) s'
run_renders [] [] w s s' h = h
run_renders [] (r ∷ rs) w s s' h = absurd h
run_renders (e ∷ es) [] w s s' h = absurd h
run_renders (e ∷ es) (r ∷ rs) w s s' h = renders_more (effect_of w.tree e) w s r es rs (next_session w e r) h.0 s' h.1 (run_renders es rs (next_session w e r) h.0 s' h.2)

-- a prefix of a run is a run
pub prefix_runs : (j : ℕ) (es : List Event) (rs : List Reply) (w : SessionState) (s s' : ScreenState) → Run w s es rs s' → (t : ScreenState) × Run w s (take j es) (take j rs) t
prefix_runs zero es rs w s s' h = (s, refl)
prefix_runs (suc j) [] [] w s s' h = (s, refl)
prefix_runs (suc j) [] (r ∷ rs) w s s' h = absurd h
prefix_runs (suc j) (e ∷ es) [] w s s' h = absurd h
prefix_runs (suc j) (e ∷ es) (r ∷ rs) w s s' h =
    let more = prefix_runs j es rs (next_session w e r) h.0 s' h.2 in
    (more.0, (h.0, h.1, more.1))

-- the step at each place
pub steps_at : (j : ℕ) (es : List Event) (rs : List Reply) (w : SessionState) (s s' : ScreenState) → Run w s es rs s' → j < length es → StepsAt w es rs j s s'
steps_at j [] rs w s s' h l = absurd (omega arith)
steps_at j (e ∷ es) [] w s s' h l = absurd h
steps_at zero (e ∷ es) (r ∷ rs) w s s' h l = record { event = e; reply = r; asked = refl; replied = refl; before = s; after = h.0; earlier = refl; step = h.1; later = h.2 }
steps_at (suc j) (e ∷ es) (r ∷ rs) w s s' h l =
    let at = steps_at j es rs (next_session w e r) h.0 s' h.2 (omega arith) in
    record { event = at.event; reply = at.reply; asked = at.asked; replied = at.replied; before = at.before; after = at.after; earlier = (h.0, h.1, at.earlier); step = at.step; later = at.later }

step_with_memory : (b : Bool) (w : SessionState) (s : ScreenState) (e : Event) (r : Reply) (es : List Event) (rs : List Reply) (s₁ s' : ScreenState) → is_memory r ≡ b
    → Steps w s e r (next_session w e r) s₁ → Run (next_session w e r) s₁ es rs s' → Run w s (cond b es (e ∷ es)) (cond b rs (r ∷ rs)) s'
step_with_memory false w s e r es rs s₁ s' m step more = (s₁, step, more)
step_with_memory true w s e r es rs s₁ s' m step more =
    let idle = step_idle w s e r (next_session w e r) s₁ m step in
    subst (λ q. Run q s es rs s') idle.0 (subst (λ q. Run (next_session w e r) q es rs s') idle.1 more)

-- a run is also that of the events that weren't out of memory
pub run_with_memory : (es : List Event) (rs : List Reply) (w : SessionState) (s s' : ScreenState) → Run w s es rs s' → Run w s (events_with_memory es rs) (replies_with_memory rs) s'
run_with_memory [] [] w s s' h = h
run_with_memory [] (r ∷ rs) w s s' h = absurd h
run_with_memory (e ∷ es) [] w s s' h = absurd h
run_with_memory (e ∷ es) (r ∷ rs) w s s' h =
    step_with_memory (is_memory r) w s e r (events_with_memory es rs) (replies_with_memory rs) h.0 s' refl h.1 (run_with_memory es rs (next_session w e r) h.0 s' h.2)

after_step : (b : Bool) (w : SessionState) (s : ScreenState) (e : Event) (r : Reply) (es fs : List Event) (rs qs : List Reply) (s₁ : ScreenState) → is_memory r ≡ b
    → Steps w s e r (next_session w e r) s₁ → session_after (next_session w e r) fs qs ≡ session_after (next_session w e r) es rs
    → session_after w (cond b fs (e ∷ fs)) (cond b qs (r ∷ qs)) ≡ session_after (next_session w e r) es rs
after_step false w s e r es fs rs qs s₁ m step more = more
after_step true w s e r es fs rs qs s₁ m step more = ap (λ q. session_after q fs qs) (sym (step_idle w s e r (next_session w e r) s₁ m step).0) ∙ more

-- and it ends in the same session
pub after_with_memory : (es : List Event) (rs : List Reply) (w : SessionState) (s s' : ScreenState) → Run w s es rs s'
    → session_after w (events_with_memory es rs) (replies_with_memory rs) ≡ session_after w es rs
after_with_memory [] [] w s s' h = refl
after_with_memory [] (r ∷ rs) w s s' h = absurd h
after_with_memory (e ∷ es) [] w s s' h = absurd h
after_with_memory (e ∷ es) (r ∷ rs) w s s' h =
    after_step (is_memory r) w s e r es (events_with_memory es rs) rs (replies_with_memory rs) h.0 refl h.1 (after_with_memory es rs (next_session w e r) h.0 s' h.2)
