use Rattle.std.proofs.Common.{◌++◌, ◌∙◌, ap, sym, string_bytes}
use Rattle.std.proofs.lemmas.Result.{on_ok_weaker}
use Rattle.prodash_base.specs.Times.{stalled_text}
use Rattle.prodash_base.proofs.Prefixes.{append_twice, IsPrefix-trans}
use Rattle.prodash_base.proofs.timing.task_time.push_stalled.Goals as goal

pub returns : goal.returns
returns c = (
  on_ok_weaker c.push_seconds.result
      (λ e. append_twice _ _ _ _ _ c.in_ok-push_text.ensures.0 e ∙ ap (λ s. string_bytes c.args.out.now ++ stalled_text s) (sym c.in-Some.is))
      c.push_seconds.ensures.0,
  IsPrefix-trans _ _ _ c.in_ok-push_text.ensures.1 c.push_seconds.ensures.1,
)
