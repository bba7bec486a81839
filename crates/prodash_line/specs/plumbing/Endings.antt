-- The refusal of every further frame, by why the renderer has ended.
use Rattle.prodash_base.specs.declared.refusal.Refusal.{Refusal}
use Rattle.prodash_base.specs.declared.refusal.Refusal.TheVariants as refusals
use Rattle.prodash_line.specs.declared.render.line.draw.state.Ending.{Ending}
use Rattle.prodash_line.specs.declared.render.line.draw.state.Ending.TheVariants.{Closed, Broken}

abbrev pub refusal_of : Ending → Refusal
refusal_of Closed = refusals.Closed
refusal_of Broken = refusals.Broken
