-- The inputs that frames give the renderer.
use Rattle.std.specs.Prelude.{Option, Some, None}
use Rattle.prodash_line.specs.declared.render.line.draw.input.Input.{Input}
use Rattle.prodash_core.specs.Trees.{Effect, OnTree, OnRenderer, effect_of}
use Rattle.prodash_core.specs.Sessions.{SessionState}
use Rattle.prodash_core.specs.declared.tree.event.Event.{Event}

abbrev pub input_by : SessionState → Effect → Option Input
input_by w (OnTree memory outcome) = None
input_by w (OnRenderer input) = Some (input w.renderer.seen)

-- the input for the renderer, if the event is a frame
abbrev pub input_at : SessionState → Event → Option Input
input_at w e = input_by w (effect_of w.tree e)
