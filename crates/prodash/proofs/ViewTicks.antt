-- Ticks of an engine that draws a recorded tree.
use Rattle.std.proofs.Common.{◌≡◌, ℕ, List, Bool, Option, Some, None, Ok, Err, refl, subst, ap, sym}
use Rattle.prodash_base.specs.declared.refusal.Refusal.{Refusal}
use Rattle.prodash_line.specs.Renderer.{Renderer, Seen, Accepts, Renders}
use Rattle.prodash_line.specs.Screens.{ScreenState}
use Rattle.prodash_line.specs.declared.render.line.draw.input.Answer.{Answer}
use Rattle.prodash_line.specs.declared.render.line.draw.input.Input.TheVariants as inputs
use Rattle.prodash_core.specs.declared.tree.event.Event.{Event}
use Rattle.prodash_core.specs.declared.tree.event.Reply.{Reply}
use Rattle.prodash.specs.declared.render.line.engine.event.EngineEvent.TheVariants.{Tick}
use Rattle.prodash.specs.Journals.{Replays}
use Rattle.prodash_core.specs.Trees.{Tree}
use Rattle.prodash.specs.Views.{OfViewTurn, OfReceipt, Reads, Sees, SeesTree, MaySeeTree, DrawsTree, TicksAt}
use Rattle.prodash.proofs.EngineSteps.{steps_by_frame}

-- what a look sees is what its calls lead to
pub tree_seen : (found left : OfViewTurn) (capacity : ℕ) (previous : Option ℕ) (entries : List (Event × Reply)) (seen : Seen)
    → Reads found left (Sees capacity previous entries seen)
    → SeesTree (λ (es : List (Event × Reply)) (t : Tree). Replays capacity es t) previous (Some entries) seen
tree_seen found left capacity previous entries seen h =
    let sees = h.5.1 in
    (h.1.tree, subst (λ (es : List (Event × Reply)). Replays capacity es h.1.tree) (sym sees.0) sees.1, sees.2)

module _ {Receipt : Type 0} where
  -- a frame of what is seen of a tree is that of a session with it
  pub tree_drawn : (is_of : OfReceipt Receipt) (at : ℕ) (show : Bool) (receipt : Option Receipt) (seen : Seen) (r : Renderer) (s : ScreenState) (answer : Answer) (r' : Renderer) (s' : ScreenState)
      → SeesTree is_of r.seen receipt seen → Accepts r (inputs.Tick at show seen) s answer r' s'
      → DrawsTree is_of at show receipt r s answer r' s'
  tree_drawn is_of at show None seen r s answer r' s' sees h =
      subst (λ (x : Seen). Accepts r (inputs.Tick at show x) s answer r' s') sees h
  tree_drawn is_of at show (Some receipt) seen r s answer r' s' sees h = (
    sees.0,
    sees.1,
    record {
      result = Ok answer;
      replied = refl;
      tree = refl;
      renders = subst (λ (x : Seen). Accepts r (inputs.Tick at show x) s answer r' s') sees.2 h;
    },
  )

  -- a frame that isn't drawn whole was of what is seen of a tree
  pub tree_refused : (is_of : OfReceipt Receipt) (at : ℕ) (show : Bool) (receipt : Option Receipt) (seen : Seen) (r : Renderer) (s : ScreenState) (refusal : Refusal) (r' : Renderer) (s' : ScreenState)
      → SeesTree is_of r.seen receipt seen → Renders r (inputs.Tick at show seen) s (Err refusal) r' s'
      → TicksAt is_of at show r s (Err refusal) r' s'
  tree_refused is_of at show receipt seen r s refusal r' s' sees h =
      steps_by_frame (Tick at show) (MaySeeTree is_of r.seen) r s (inputs.Tick at show seen) (Err refusal) r' s' (seen, (receipt, sees), refl) h

-- a tick draws what its look sees
pub ruleset ticking = (tree_drawn, tree_refused)
