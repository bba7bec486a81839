-- Sessions: a tree and a renderer, and what one event does to them and to the screen.
use Rattle.std.specs.Prelude.{◌≡◌, Bool, true, false, Option, Some, None, Result, Ok, Err, IsTrue, IsOk, MatchBool}
use Rattle.prodash_base.specs.declared.refusal.Refusal.{Refusal}
use Rattle.prodash_base.specs.declared.refusal.Refusal.TheVariants as refusals
use Rattle.prodash_line.specs.declared.render.line.draw.input.Input.{Input}
use Rattle.prodash_line.specs.declared.render.line.draw.input.Answer.{Answer}
use Rattle.prodash_line.specs.declared.render.line.draw.input.Answer.TheVariants as answers
use Rattle.prodash_line.specs.Renderer.{Renderer, Renders, new_renderer}
use Rattle.prodash_line.specs.Screens.{ScreenState}
use Rattle.prodash_core.specs.Trees.{Tree, new_tree, Outcome, Effect, OnTree, OnRenderer, effect_of}
use Rattle.prodash_core.specs.declared.tree.options.SessionOptions.{SessionOptions}
use Rattle.prodash_core.specs.declared.tree.event.Event.{Event}
use Rattle.prodash_core.specs.declared.tree.event.Reply.{Reply}
use Rattle.prodash_core.specs.declared.tree.event.Reply.TheVariants as replies

-- the tree and the renderer of a session
pub record SessionState : Type 0 where
  pub tree : Tree
  pub renderer : Renderer

-- nothing but the root, no messages, and nothing drawn
abbrev pub new_session : SessionOptions → SessionState
new_session options = record {
  tree = new_tree options.root.message_buffer_capacity;
  renderer = new_renderer options.draw options.throughput;
}

-- the reply with what the renderer returned
abbrev pub frame_reply : Result Answer Refusal → Reply
frame_reply (Ok answers.Drawn) = replies.Drawn
frame_reply (Ok answers.Ended) = replies.Ended
frame_reply (Err refusal) = replies.Refused refusal

-- the reply of an outcome
abbrev pub reply_of : Outcome → Reply
reply_of (Ok changed) = changed.1
reply_of (Err refusal) = replies.Refused refusal

-- the tree after an outcome
abbrev pub tree_after : Tree → Outcome → Tree
tree_after t (Ok changed) = changed.0
tree_after t (Err refusal) = t

-- a frame: the renderer renders the input, and the tree stays
pub record RendersFrame (w : SessionState) (input : Input) (s : ScreenState) (reply : Reply)
    (w' : SessionState) (s' : ScreenState) : Type 0 where
  pub result : Result Answer Refusal
  pub replied : reply ≡ frame_reply result
  pub tree : w'.tree ≡ w.tree
  pub renders : Renders w.renderer input s result w'.renderer s'

-- another event: it is applied to the tree, and renderer and screen stay
pub record AppliesToTree (w : SessionState) (s : ScreenState) (outcome : Outcome) (reply : Reply)
    (w' : SessionState) (s' : ScreenState) : Type 0 where
  pub replied : reply ≡ reply_of outcome
  pub tree : w'.tree ≡ tree_after w.tree outcome
  pub renderer : w'.renderer ≡ w.renderer
  pub screen : s' ≡ s

-- another event runs out of memory: only if it may, and if the tree doesn't refuse it. Nothing has
-- changed.
pub record RunsOutOfMemory (w : SessionState) (s : ScreenState) (memory : Bool) (outcome : Outcome)
    (w' : SessionState) (s' : ScreenState) : Type 0 where
  pub may : IsTrue memory
  pub accepted : IsOk outcome
  pub session : w' ≡ w
  pub screen : s' ≡ s

-- is it the reply that there was no memory?
abbrev pub is_memory : Reply → Bool
is_memory (replies.Refused refusals.Memory) = true
is_memory _ = false

-- an event on the tree: it is applied, or runs out of memory if that is the reply
abbrev pub StepsOnTree : SessionState → ScreenState → Bool → Outcome → Reply → SessionState
    → ScreenState → Type 0
StepsOnTree w s memory outcome reply w' s' =
    MatchBool (is_memory reply) (RunsOutOfMemory w s memory outcome w' s')
    (AppliesToTree w s outcome reply w' s')

-- the step of an event with this effect
abbrev pub StepsBy : Effect → SessionState → ScreenState → Reply → SessionState → ScreenState
    → Type 0
StepsBy (OnTree memory outcome) w s reply w' s' = StepsOnTree w s memory outcome reply w' s'
StepsBy (OnRenderer input) w s reply w' s' =
    RendersFrame w (input w.renderer.seen) s reply w' s'

-- one event: its reply, and what it leaves of the session and the screen
abbrev pub Steps : SessionState → ScreenState → Event → Reply → SessionState → ScreenState → Type 0
Steps w s e reply w' s' = StepsBy (effect_of w.tree e) w s reply w' s'
