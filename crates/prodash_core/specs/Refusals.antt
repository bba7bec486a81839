-- What the tree refuses, however much memory there is.
use Rattle.std.specs.Prelude.{Option, Some, None, Ok, Err}
use Rattle.prodash_base.specs.declared.refusal.Refusal.{Refusal}
use Rattle.prodash_core.specs.Trees.{Tree, Outcome, Effect, OnTree, OnRenderer, effect_of}
use Rattle.prodash_core.specs.declared.tree.event.Event.{Event}

-- the refusal in an outcome, if it is one
abbrev pub refusal_in : Outcome → Option Refusal
refusal_in (Ok changed) = None
refusal_in (Err refusal) = Some refusal

-- the refusal of an event with this effect, if it is refused
abbrev pub refusal_by : Effect → Option Refusal
refusal_by (OnTree memory outcome) = refusal_in outcome
refusal_by (OnRenderer input) = None

-- the refusal of an event by the tree, however much memory there is; it refuses no frame
abbrev pub refusal_of : Tree → Event → Option Refusal
refusal_of t e = refusal_by (effect_of t e)
