use Rattle.std.proofs.lemmas.Result.{on_ok_weaker}
use Rattle.prodash_base.proofs.Prefixes.{append_twice, IsPrefix-append, IsPrefix-trans}
use Rattle.prodash_base.proofs.unit.display.values.push_unit.Goals as goal

pub returns : goal.returns
returns g c = (
  on_ok_weaker c.push_at.result (λ e. append_twice _ _ _ _ _ c.in_ok-display_unit.ensures.ok e) c.push_at.ensures.0,
  IsPrefix-trans _ _ _ (IsPrefix-append _ _ _ c.in_ok-display_unit.ensures.ok) c.push_at.ensures.1,
)
