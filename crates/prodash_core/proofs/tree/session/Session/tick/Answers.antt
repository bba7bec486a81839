use Rattle.std.proofs.Common.{ap, ◌∙◌}
use Rattle.prodash_core.specs.Sessions.{SessionState}
use Rattle.prodash_core.proofs.FrameSteps.{frame_refused, frame_out_of_memory}
use Rattle.prodash_core.proofs.tree.session.Session.tick.Goals as goal

pub returns-in-Some : goal.returns-in-Some
returns-in-Some g c = frame_refused _ _ _ _ (c.in-Some.ensures.value ∙ ap (λ w. w.renderer.ended) c.self.view_is) c.in-Some.ensures.reason

pub returns-in-Err : goal.returns-in-Err
returns-in-Err g c =
    frame_out_of_memory _ _ _ _ _ (c.in_default.ensures.value ∙ ap (λ w. w.renderer.ended) c.self.view_is) c.in-Err.ensures.reason
    (ap {B = SessionState} (λ renderer. record { tree = c.self.inside.tree; renderer = renderer }) c.take_spare-spare.ensures ∙ c.self.view_is)
