-- What one step leaves, by its reply.
use Rattle.std.proofs.Common.{◌≡◌, ◌∙◌, ap, sym, subst, refl, Bool, true, false, cond, Result, Ok, Err, ⊎_elim}
use Rattle.std.specs.Prelude.{MatchBool}
use Rattle.prodash_base.specs.declared.refusal.Refusal.{Refusal}
use Rattle.prodash_base.specs.declared.refusal.Refusal.TheVariants as refusals
use Rattle.prodash_line.specs.declared.render.line.draw.input.Input.{Input}
use Rattle.prodash_line.specs.declared.render.line.draw.input.Answer.{Answer}
use Rattle.prodash_line.specs.declared.render.line.draw.input.Answer.TheVariants as answers
use Rattle.prodash_line.specs.Renderer.{Renderer, Renders}
use Rattle.prodash_line.specs.Renderings.{after_result}
use Rattle.prodash_line.specs.Screens.{ScreenState}
use Rattle.prodash_core.specs.Trees.{Outcome, Effect, OnTree, OnRenderer, effect_of}
use Rattle.prodash_core.specs.Sessions.{SessionState, is_memory, frame_reply, tree_after, RendersFrame, AppliesToTree, RunsOutOfMemory, StepsOnTree, StepsBy, Steps}
use Rattle.prodash_core.specs.Runs.{result_of, next_by, next_session}
use Rattle.prodash_core.specs.declared.tree.event.Event.{Event}
use Rattle.prodash_core.specs.declared.tree.event.Reply.{Reply}

-- the renderer after an input, by what was returned
renders_after : (r : Renderer) (input : Input) (s : ScreenState) (result : Result Answer Refusal) (r' : Renderer) (s' : ScreenState) → Renders r input s result r' s' → r' ≡ after_result r input result
renders_after r input s (Ok answer) r' s' h = h.renderer
renders_after r input s (Err refusals.Memory) r' s' h = h.renderer
renders_after r input s (Err refusals.TooManyMessages) r' s' h = absurd h
renders_after r input s (Err refusals.TooManyHandles) r' s' h = absurd h
renders_after r input s (Err refusals.NoThread) r' s' h = absurd h
renders_after r input s (Err refusals.Gone) r' s' h = absurd h
renders_after r input s (Err refusals.Closed) r' s' h = h.renderer
renders_after r input s (Err refusals.Broken) r' s' h = ⊎_elim (λ a. a.renderer ∙ (λ i. record r { ended = a.ended i })) (λ b. b.renderer) h

-- the reply to a frame says what was returned
pub result_of-reply : (result : Result Answer Refusal) → result_of (frame_reply result) ≡ result
result_of-reply (Ok answers.Drawn) = refl
result_of-reply (Ok answers.Ended) = refl
result_of-reply (Err refusal) = refl

-- a frame, by its reply
pub frame_renders : (w : SessionState) (input : Input) (s : ScreenState) (reply : Reply) (w' : SessionState) (s' : ScreenState) → RendersFrame w input s reply w' s'
    → Renders w.renderer input s (result_of reply) (after_result w.renderer input (result_of reply)) s'
frame_renders w input s reply w' s' h =
    let same : result_of reply ≡ h.result = ap result_of h.replied ∙ result_of-reply h.result in
    subst (λ result. Renders w.renderer input s result (after_result w.renderer input result) s') (sym same)
    (subst (λ r. Renders w.renderer input s h.result r s') (renders_after w.renderer input s h.result w'.renderer s' h.renders) h.renders)

frame_next : (w : SessionState) (input : Input) (s : ScreenState) (reply : Reply) (w' : SessionState) (s' : ScreenState) → RendersFrame w input s reply w' s'
    → w' ≡ record w { renderer = after_result w.renderer input (result_of reply) }
frame_next w input s reply w' s' h =
    let renderer : w'.renderer ≡ after_result w.renderer input (result_of reply) =
    renders_after w.renderer input s h.result w'.renderer s' h.renders ∙ ap (after_result w.renderer input) (sym (ap result_of h.replied ∙ result_of-reply h.result)) in
    λ i. record { tree = h.tree i; renderer = renderer i }

tree_next : (w : SessionState) (s : ScreenState) (memory : Bool) (outcome : Outcome) (reply : Reply) (w' : SessionState) (s' : ScreenState) (b : Bool)
    → MatchBool b (RunsOutOfMemory w s memory outcome w' s') (AppliesToTree w s outcome reply w' s') → w' ≡ cond b w (record w { tree = tree_after w.tree outcome })
tree_next w s memory outcome reply w' s' true h = h.session
tree_next w s memory outcome reply w' s' false h = λ i. record { tree = h.tree i; renderer = h.renderer i }

next_is : (f : Effect) (w : SessionState) (s : ScreenState) (reply : Reply) (w' : SessionState) (s' : ScreenState) → StepsBy f w s reply w' s' → w' ≡ next_by f w reply
next_is (OnTree memory outcome) w s reply w' s' h = tree_next w s memory outcome reply w' s' (is_memory reply) h
next_is (OnRenderer input) w s reply w' s' h = frame_next w (input w.renderer.seen) s reply w' s' h

-- the session after a step
pub step_next : (w : SessionState) (s : ScreenState) (e : Event) (reply : Reply) (w' : SessionState) (s' : ScreenState) → Steps w s e reply w' s' → w' ≡ next_session w e reply
step_next w s e reply w' s' h = next_is (effect_of w.tree e) w s reply w' s' h

screen_by : (w : SessionState) (s : ScreenState) (memory : Bool) (outcome : Outcome) (reply : Reply) (w' : SessionState) (s' : ScreenState) (b : Bool)
    → MatchBool b (RunsOutOfMemory w s memory outcome w' s') (AppliesToTree w s outcome reply w' s') → s' ≡ s
screen_by w s memory outcome reply w' s' true h = h.screen
screen_by w s memory outcome reply w' s' false h = h.screen

-- an event that is no frame leaves the screen
pub screen_stays : (w : SessionState) (s : ScreenState) (memory : Bool) (outcome : Outcome) (reply : Reply) (w' : SessionState) (s' : ScreenState)
    → StepsOnTree w s memory outcome reply w' s' → s' ≡ s
screen_stays w s memory outcome reply w' s' h = screen_by w s memory outcome reply w' s' (is_memory reply) h

frame_idle : (r : Renderer) (input : Input) (s : ScreenState) (result : Result Answer Refusal) (r' : Renderer) (s' : ScreenState) → is_memory (frame_reply result) ≡ true
    → Renders r input s result r' s' → (r' ≡ r) × (s' ≡ s)
frame_idle r input s (Ok answers.Drawn) r' s' m h = cc
frame_idle r input s (Ok answers.Ended) r' s' m h = cc
frame_idle r input s (Err refusals.Memory) r' s' m h = (h.renderer, h.screen)
frame_idle r input s (Err refusals.TooManyMessages) r' s' m h = cc
frame_idle r input s (Err refusals.TooManyHandles) r' s' m h = cc
frame_idle r input s (Err refusals.NoThread) r' s' m h = cc
frame_idle r input s (Err refusals.Gone) r' s' m h = cc
frame_idle r input s (Err refusals.Closed) r' s' m h = cc
frame_idle r input s (Err refusals.Broken) r' s' m h = cc

idle_by : (f : Effect) (w : SessionState) (s : ScreenState) (reply : Reply) (w' : SessionState) (s' : ScreenState) → is_memory reply ≡ true → StepsBy f w s reply w' s' → (w' ≡ w) × (s' ≡ s)
idle_by (OnTree memory outcome) w s reply w' s' m h =
    let out = subst (λ b. MatchBool b (RunsOutOfMemory w s memory outcome w' s') (AppliesToTree w s outcome reply w' s')) m h in
    (out.session, out.screen)
idle_by (OnRenderer input) w s reply w' s' m h =
    let kept = frame_idle w.renderer (input w.renderer.seen) s h.result w'.renderer s' (sym (ap is_memory h.replied) ∙ m) h.renders in
    ((λ i. record { tree = h.tree i; renderer = kept.0 i }), kept.1)

-- a step that is out of memory playeds nothing
pub step_idle : (w : SessionState) (s : ScreenState) (e : Event) (reply : Reply) (w' : SessionState) (s' : ScreenState) → is_memory reply ≡ true → Steps w s e reply w' s' → (w' ≡ w) × (s' ≡ s)
step_idle w s e reply w' s' m h = idle_by (effect_of w.tree e) w s reply w' s' m h
