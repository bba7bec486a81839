-- What follows from the laws of each event for events that were applied.
use Rattle.std.proofs.Common.{◌≡◌, ◌≢◌, List, ap, subst, true, Ok, Err, Some, None, refl}
use Rattle.prodash_base.specs.declared.refusal.Refusal.{Refusal}
use Rattle.prodash_base.specs.declared.refusal.Refusal.TheVariants as refusals
use Rattle.prodash_base.specs.declared.messages.Message.{Message}
use Rattle.prodash_core.specs.declared.tree.event.Event.{Event}
use Rattle.prodash_core.specs.declared.tree.event.Reply.{Reply}
use Rattle.prodash_core.specs.Replies.{owns_memory}
use Rattle.prodash_core.specs.Trees.{Tree, Effect, OnTree, OnRenderer, effect_of, AppliesEffect, Applies}
use Rattle.prodash_core.specs.Refusals.{refusal_in, refusal_by, refusal_of}
use Rattle.prodash_core.specs.Runs.{sent_by}
use Rattle.prodash_core.proofs.EventLaws.{OutcomeLaws, EffectLaws, effect_laws}

reads_by : (f : Effect) (t : Tree) (sent : List Message) → EffectLaws t sent f → (t' : Tree) (reply : Reply) → AppliesEffect f t (Ok reply) t' → owns_memory reply ≡ true → t' ≡ t
reads_by (OnTree memory outcome) t sent laws t' reply applied = (subst (OutcomeLaws t sent) applied laws).reads
reads_by (OnRenderer input) t sent laws t' reply applied = absurd applied

-- an accepted event whose reply owns memory leaves the tree as it was
pub reads_only : (t : Tree) (e : Event) (reply : Reply) (t' : Tree) → Applies t e (Ok reply) t' → owns_memory reply ≡ true → t' ≡ t
reads_only t e reply t' = reads_by (effect_of t e) t (sent_by t e) (effect_laws t e) t' reply

memory_by : (f : Effect) (t t' : Tree) (refusal : Refusal) → refusal_by f ≡ None → AppliesEffect f t (Err refusal) t' → refusal ≡ refusals.Memory
memory_by (OnTree memory outcome) t t' refusals.Memory h applied = refl
memory_by (OnTree memory outcome) t t' refusals.TooManyMessages h applied = cc (ap refusal_in applied.0, h)
memory_by (OnTree memory outcome) t t' refusals.TooManyHandles h applied = cc (ap refusal_in applied.0, h)
memory_by (OnTree memory outcome) t t' refusals.Gone h applied = cc (ap refusal_in applied.0, h)
memory_by (OnTree memory outcome) t t' refusals.Closed h applied = cc (ap refusal_in applied.0, h)
memory_by (OnTree memory outcome) t t' refusals.Broken h applied = cc (ap refusal_in applied.0, h)
memory_by (OnTree memory outcome) t t' refusals.NoThread h applied = cc (ap refusal_in applied.0, h)
memory_by (OnRenderer input) t t' refusal h applied = absurd applied

-- an event that the tree doesn't refuse is refused only if out of memory
pub memory_only : (t : Tree) (e : Event) (refusal : Refusal) (t' : Tree) → refusal_of t e ≡ None → Applies t e (Err refusal) t' → refusal ≡ refusals.Memory
memory_only t e refusal t' = memory_by (effect_of t e) t t' refusal

no_limit_by : (f : Effect) (t : Tree) (sent : List Message) → EffectLaws t sent f → refusal_by f ≢ Some refusals.TooManyHandles
no_limit_by (OnTree memory (Ok changed)) t sent laws = λ same. cc
no_limit_by (OnTree memory (Err refusal)) t sent laws = λ same. laws cc
no_limit_by (OnRenderer input) t sent laws = λ same. cc

-- the tree refuses no event because there are too many handles
pub no_handle_limit : (t : Tree) (e : Event) → refusal_of t e ≢ Some refusals.TooManyHandles
no_handle_limit t e = no_limit_by (effect_of t e) t (sent_by t e) (effect_laws t e)
