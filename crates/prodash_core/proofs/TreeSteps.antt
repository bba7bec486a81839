-- A step of the tree is a step of the session, and leaves the renderer and the screen.
use Rattle.std.proofs.Common.{◌≡◌, List, refl, sym, ap, subst, ◌∙◌, Bool, false, Result, Ok, Err}
use Rattle.std.specs.Prelude.{MatchBool}
use Rattle.std.specs.Result.{MatchResult}
use Rattle.prodash_base.specs.declared.refusal.Refusal.{Refusal}
use Rattle.prodash_base.specs.declared.refusal.Refusal.TheVariants as refusals
use Rattle.prodash_base.specs.declared.messages.Message.{Message}
use Rattle.prodash_line.specs.Screens.{ScreenState}
use Rattle.prodash_core.specs.Trees.{Tree, Outcome, Effect, OnTree, OnRenderer, effect_of, AppliesEffect, Applies}
use Rattle.prodash_core.specs.Sessions.{SessionState, is_memory, reply_of, tree_after, AppliesToTree, RunsOutOfMemory, StepsBy, Steps}
use Rattle.prodash_core.specs.Runs.{sent_by}
use Rattle.prodash_core.specs.declared.tree.event.Event.{Event}
use Rattle.prodash_core.specs.declared.tree.event.Reply.{Reply}
use Rattle.prodash_core.specs.declared.tree.event.Reply.TheVariants as replies
use Rattle.prodash_core.proofs.EventLaws.{OutcomeLaws, EffectLaws, effect_laws}

-- the reply with what the tree returned
abbrev pub tree_reply : Result Reply Refusal → Reply
tree_reply (Ok reply) = reply
tree_reply (Err refusal) = replies.Refused refusal

pub told : (result : Result Reply Refusal) (reply : Reply) → MatchResult result (λ r. reply ≡ r) (λ refusal. reply ≡ replies.Refused refusal) → reply ≡ tree_reply result
told (Ok r) reply h = h
told (Err refusal) reply h = h

applied : (w : SessionState) (s : ScreenState) (memory : Bool) (outcome : Outcome) (reply : Reply) (t' : Tree) → is_memory reply ≡ false
    → AppliesToTree w s outcome reply (record w { tree = t' }) s → StepsBy (OnTree memory outcome) w s reply (record w { tree = t' }) s
applied w s memory outcome reply t' a h =
    let after : SessionState = record w { tree = t' } in
    subst (λ b. MatchBool b (RunsOutOfMemory w s memory outcome after s) (AppliesToTree w s outcome reply after s)) (sym a) h

refused : (w : SessionState) (s : ScreenState) (outcome : Outcome) (refusal : Refusal) (t' : Tree) → (outcome ≡ Err refusal) × (t' ≡ w.tree)
    → AppliesToTree w s outcome (replies.Refused refusal) (record w { tree = t' }) s
refused w s outcome refusal t' h =
    record { replied = sym (ap reply_of h.0); tree = h.1 ∙ sym (ap (tree_after w.tree) h.0); renderer = refl; screen = refl }

applies_effect : (f : Effect) (w : SessionState) (sent : List Message) → EffectLaws w.tree sent f → (s : ScreenState) (result : Result Reply Refusal) (t' : Tree) → AppliesEffect f w.tree result t'
    → StepsBy f w s (tree_reply result) (record w { tree = t' }) s
applies_effect (OnTree memory outcome) w sent laws s (Ok reply) t' h =
    applied w s memory outcome reply t' (subst (OutcomeLaws w.tree sent) h laws).replied
    (record { replied = sym (ap reply_of h); tree = sym (ap (tree_after w.tree) h); renderer = refl; screen = refl })
applies_effect (OnTree memory outcome) w sent laws s (Err refusals.Memory) t' h =
    record { may = h.0; accepted = h.1; session = λ i. record w { tree = h.2 i }; screen = refl }
applies_effect (OnTree memory outcome) w sent laws s (Err refusals.TooManyMessages) t' h = refused w s outcome refusals.TooManyMessages t' h
applies_effect (OnTree memory outcome) w sent laws s (Err refusals.TooManyHandles) t' h = refused w s outcome refusals.TooManyHandles t' h
applies_effect (OnTree memory outcome) w sent laws s (Err refusals.NoThread) t' h = refused w s outcome refusals.NoThread t' h
applies_effect (OnTree memory outcome) w sent laws s (Err refusals.Gone) t' h = refused w s outcome refusals.Gone t' h
applies_effect (OnTree memory outcome) w sent laws s (Err refusals.Closed) t' h = refused w s outcome refusals.Closed t' h
applies_effect (OnTree memory outcome) w sent laws s (Err refusals.Broken) t' h = refused w s outcome refusals.Broken t' h
applies_effect (OnRenderer input) w sent laws s result t' h = absurd h

pub applies_step : (w : SessionState) (s : ScreenState) (e : Event) (result : Result Reply Refusal) (t' : Tree) → Applies w.tree e result t'
    → Steps w s e (tree_reply result) (record w { tree = t' }) s
applies_step w s e result t' h = applies_effect (effect_of w.tree e) w (sent_by w.tree e) (effect_laws w.tree e) s result t' h
