use Rattle.std.proofs.Common.{◌<◌, ◌++◌, ◌∙◌, ap, sym, refl, string_bytes, arith}
use Rattle.std.proofs.lemmas.Result.{on_ok_weaker}
use Rattle.prodash_base.specs.Numerals.{after_point}
use Rattle.prodash_base.proofs.Prefixes.{append_twice, IsPrefix-same, IsPrefix-trans}
use Rattle.prodash_base.proofs.Digits.{append_none, last_digits-none, after_point-some}
use Rattle.prodash_base.proofs.appending.push_after_point.Goals as goal

pub returns-then-places-eq0 : goal.returns-then-places-eq0
returns-then-places-eq0 c = (append_none _ _ (ap after_point (last_digits-none c.args.places c.args.n c.if-places-eq0.true)), IsPrefix-same _ _ refl)

pub returns : goal.returns
returns c =
    let some : 0 < c.args.places = omega (arith, c.if-places-eq0.false) in (
      on_ok_weaker c.push_last_digits.result
          (λ e. append_twice _ _ _ _ _ c.in_ok-push_ascii.ensures.0 e ∙ ap (λ ds. string_bytes c.args.out.now ++ ds) (sym (after_point-some c.args.places c.args.n some)))
          c.push_last_digits.ensures.0,
      IsPrefix-trans _ _ _ c.in_ok-push_ascii.ensures.1 c.push_last_digits.ensures.1,
    )
