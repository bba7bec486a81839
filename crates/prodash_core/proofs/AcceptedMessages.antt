-- The ring of a run: it is that of all accepted messages.
use Rattle.std.proofs.Common.{◌≡◌, ◌∙◌, ap, sym, ℕ, take, ◌++◌, ◌∷◌, [], List, refl, append_assoc, append-nil, Bool, true, false, cond, Ok, Err}
use Rattle.std.specs.Prelude.{fold, MatchBool}
use Rattle.prodash_base.specs.Rings.{new_ring, push, ring_of}
use Rattle.prodash_base.specs.declared.messages.Message.{Message}
use Rattle.prodash_base.proofs.RingLaws.{push-ring_of, fold-push}
use Rattle.prodash_line.specs.Screens.{ScreenState}
use Rattle.prodash_core.specs.Trees.{Tree, Outcome, Effect, OnTree, OnRenderer, effect_of}
use Rattle.prodash_core.specs.Sessions.{SessionState, is_memory, reply_of, tree_after, RunsOutOfMemory, AppliesToTree, StepsBy}
use Rattle.prodash_core.specs.Runs.{Run, is_done, sent_by, next_by, next_session, session_after, accepted_messages}
use Rattle.prodash_core.proofs.RunLaws.{prefix_runs}
use Rattle.prodash_core.proofs.EventLaws.{OutcomeLaws, EffectLaws, effect_laws}
use Rattle.prodash_core.specs.declared.tree.event.Event.{Event}
use Rattle.prodash_core.specs.declared.tree.event.Reply.{Reply}
use Rattle.prodash_core.specs.declared.tree.event.Reply.TheVariants as replies

-- the ring of this capacity holds these messages and no others, in a tree
abbrev Holds : ℕ → List Message → Tree → Type 0
Holds c all t = t.ring ≡ ring_of c all

push_all : (c : ℕ) (all more : List Message) → fold push (ring_of c all) more ≡ ring_of c (all ++ more)
push_all c all [] = ap (ring_of c) (sym (append-nil all))
push_all c all (m ∷ more) = ap (λ r. fold push r more) (push-ring_of c all m) ∙ push_all c (all ++ m ∷ []) more ∙ ap (ring_of c) (append_assoc all (m ∷ []) more)

-- an event that is out of memory isn't done
memory_not_done : (r : Reply) → is_memory r ≡ true → is_done r ≡ false
memory_not_done (replies.Made n) m = refl
memory_not_done replies.Done m = cc
memory_not_done (replies.Bound bound) m = refl
memory_not_done (replies.Name name) m = refl
memory_not_done (replies.Id id) m = refl
memory_not_done (replies.Step step) m = refl
memory_not_done (replies.Unit unit) m = refl
memory_not_done (replies.Count n) m = refl
memory_not_done (replies.Rows rows) m = refl
memory_not_done (replies.Messages messages) m = refl
memory_not_done (replies.New messages state) m = refl
memory_not_done replies.Drawn m = refl
memory_not_done replies.Ended m = refl
memory_not_done (replies.Refused refusal) m = refl

outcome_holds : (c : ℕ) (all sent : List Message) (t : Tree) (outcome : Outcome) → OutcomeLaws t sent outcome → Holds c all t
    → Holds c (all ++ cond (is_done (reply_of outcome)) sent []) (tree_after t outcome)
outcome_holds c all sent t (Ok changed) laws h = laws.ring ∙ ap (λ r. fold push r (cond (is_done changed.1) sent [])) h ∙ push_all c all (cond (is_done changed.1) sent [])
outcome_holds c all sent t (Err refusal) laws h = h ∙ ap (ring_of c) (sym (append-nil all))

tree_holds : (c : ℕ) (all sent : List Message) (w : SessionState) (s : ScreenState) (memory : Bool) (outcome : Outcome) (reply : Reply) (w' : SessionState) (s' : ScreenState) (b : Bool)
    → is_memory reply ≡ b → OutcomeLaws w.tree sent outcome → Holds c all w.tree
    → MatchBool b (RunsOutOfMemory w s memory outcome w' s') (AppliesToTree w s outcome reply w' s')
    → Holds c (all ++ cond (is_done reply) sent []) (cond b w (record w { tree = tree_after w.tree outcome })).tree
tree_holds c all sent w s memory outcome reply w' s' true m laws h step =
    h ∙ ap (ring_of c) (sym (append-nil all) ∙ ap (λ b. all ++ cond b sent []) (sym (memory_not_done reply m)))
tree_holds c all sent w s memory outcome reply w' s' false m laws h step =
    outcome_holds c all sent w.tree outcome laws h ∙ ap (λ r. ring_of c (all ++ cond (is_done r) sent [])) (sym step.replied)

same_either : (b : Bool) (sent : List Message) → sent ≡ [] → cond b sent [] ≡ []
same_either true sent e = e
same_either false sent e = refl

holds_by : (f : Effect) (c : ℕ) (all sent : List Message) (w : SessionState) (s : ScreenState) (reply : Reply) (w' : SessionState) (s' : ScreenState)
    → EffectLaws w.tree sent f → StepsBy f w s reply w' s' → Holds c all w.tree → Holds c (all ++ cond (is_done reply) sent []) (next_by f w reply).tree
holds_by (OnTree memory outcome) c all sent w s reply w' s' laws step h = tree_holds c all sent w s memory outcome reply w' s' (is_memory reply) refl laws h step
holds_by (OnRenderer input) c all sent w s reply w' s' laws step h =
    h ∙ ap (ring_of c) (sym (append-nil all) ∙ ap (λ ms. all ++ ms) (sym (same_either (is_done reply) sent laws)))

run_sent : (c : ℕ) (all : List Message) (es : List Event) (rs : List Reply) (w : SessionState) (s s' : ScreenState) → Run w s es rs s' → Holds c all w.tree
    → Holds c (all ++ accepted_messages w es rs) (session_after w es rs).tree
run_sent c all [] [] w s s' h ring = ring ∙ ap (ring_of c) (sym (append-nil all))
run_sent c all [] (r ∷ rs) w s s' h ring = absurd h
run_sent c all (e ∷ es) [] w s s' h ring = absurd h
run_sent c all (e ∷ es) (r ∷ rs) w s s' h ring =
    let sent = cond (is_done r) (sent_by w.tree e) [] in
    let next = next_session w e r in
    run_sent c (all ++ sent) es rs next h.0 s' h.2 (holds_by (effect_of w.tree e) c all (sent_by w.tree e) w s r next h.0 (effect_laws w.tree e) h.1 ring)
    ∙ ap (ring_of c) (append_assoc all sent (accepted_messages next es rs))

-- after each prefix of a run, the ring is that of all accepted messages so far
pub rings_of_prefixes : (c : ℕ) (es : List Event) (rs : List Reply) (w : SessionState) (s s' : ScreenState) → Run w s es rs s' → w.tree.ring ≡ new_ring c
    → (j : ℕ) → (session_after w (take j es) (take j rs)).tree.ring ≡ ring_of c (accepted_messages w (take j es) (take j rs))
rings_of_prefixes c es rs w s s' h empty j =
    let prefix = prefix_runs j es rs w s s' h in
    run_sent c [] (take j es) (take j rs) w s prefix.0 prefix.1 (empty ∙ fold-push c [])
