-- Frames that are refused before the renderer is given an input.
use Rattle.std.proofs.Common.{◌≡◌, Some, None, Err, refl, sym, subst, ap, ◌∙◌, ◌⊎◌, inl, inr}
use Rattle.prodash_base.specs.declared.refusal.Refusal.{Refusal}
use Rattle.prodash_base.specs.declared.refusal.Refusal.TheVariants as refusals
use Rattle.prodash_line.specs.declared.render.line.draw.input.Input.{Input}
use Rattle.prodash_line.specs.Screens.{ScreenState}
use Rattle.prodash_core.specs.Sessions.{SessionState, RendersFrame}
use Rattle.prodash_core.specs.declared.tree.event.Reply.TheVariants as replies

-- the renderer has ended
pub frame_refused : (w : SessionState) (input : Input) (s : ScreenState) (refusal : Refusal) → Some refusal ≡ w.renderer.ended → (refusal ≡ refusals.Closed) ⊎ (refusal ≡ refusals.Broken)
    → RendersFrame w input s (replies.Refused refusal) w s
frame_refused w input s refusal ended (inl closed) =
    let refused : RendersFrame w input s (replies.Refused refusals.Closed) w s =
    record { result = Err refusals.Closed; replied = refl; tree = refl; renders = record { ended = sym ended ∙ ap Some closed; renderer = refl; screen = refl } } in
    subst (λ (r : Refusal). RendersFrame w input s (replies.Refused r) w s) (sym closed) refused
frame_refused w input s refusal ended (inr broken) =
    let refused : RendersFrame w input s (replies.Refused refusals.Broken) w s =
    record { result = Err refusals.Broken; replied = refl; tree = refl; renders = inl (record { ended = sym ended ∙ ap Some broken; renderer = refl; screen = refl }) } in
    subst (λ (r : Refusal). RendersFrame w input s (replies.Refused r) w s) (sym broken) refused

-- there is no memory for what the frame sees
pub frame_out_of_memory : (w : SessionState) (input : Input) (s : ScreenState) (refusal : Refusal) (w' : SessionState) → None ≡ w.renderer.ended → refusal ≡ refusals.Memory → w' ≡ w
    → RendersFrame w input s (replies.Refused refusal) w' s
frame_out_of_memory w input s refusal w' running memory same =
    let refused : RendersFrame w input s (replies.Refused refusals.Memory) w s =
    record { result = Err refusals.Memory; replied = refl; tree = refl; renders = record { running = sym running; renderer = refl; screen = refl } } in
    subst (λ (v : SessionState). RendersFrame w input s (replies.Refused refusal) v s) (sym same)
    (subst (λ (r : Refusal). RendersFrame w input s (replies.Refused r) w s) (sym memory) refused)
