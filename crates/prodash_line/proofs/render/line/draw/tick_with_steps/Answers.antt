use Rattle.prodash_line.proofs.ErasedRenderings.{erases_pages}
use Rattle.prodash_line.proofs.SafeFrames.{draws_safely}
use Rattle.prodash_line.proofs.render.line.draw.tick_with_steps.Goals as goal

pub returns-clause-page : goal.returns-clause-page
returns-clause-page g c = erases_pages _ _ _ _ _ _ c.draw_tick.ensures

pub returns-clause-safe : goal.returns-clause-safe
returns-clause-safe g c = draws_safely _ _ _ _ _ _ c.draw_tick.ensures
