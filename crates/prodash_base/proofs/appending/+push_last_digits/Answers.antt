use Rattle.std.proofs.Common.{◌<◌, ◌++◌, ◌∙◌, ap, sym, refl, string_bytes, arith}
use Rattle.std.proofs.lemmas.Result.{on_ok_weaker}
use Rattle.prodash_base.specs.Numerals.{last_digits}
use Rattle.prodash_base.proofs.Prefixes.{append_twice, IsPrefix-same, IsPrefix-trans}
use Rattle.prodash_base.proofs.Digits.{append_none, last_digits-none, last_digits-one, last_digits-rest, last_digits-last}
use Rattle.prodash_base.proofs.appending.+push_last_digits.Goals as goal

pub returns-in-0 : goal.returns-in-0
returns-in-0 t c = (append_none _ _ (last_digits-none c.args.places c.args.n c.in-0.is), IsPrefix-same _ _ refl)

pub returns-in-1 : goal.returns-in-1
returns-in-1 t c = (
  on_ok_weaker c.push_ascii.result
      (λ e. e ∙ ap (λ ds. string_bytes c.args.out.now ++ ds) (sym (last_digits-one c.args.places c.args.n c.in-1.is)))
      c.push_ascii.ensures.0,
  c.push_ascii.ensures.1,
)

pub returns-in-2 : goal.returns-in-2
returns-in-2 t c = (
  on_ok_weaker c.push_two_digits.result
      (λ e. e ∙ ap (λ ds. string_bytes c.args.out.now ++ ds) (ap (last_digits 2) c.last_two_digits.ensures ∙ last_digits-rest c.args.places c.args.n c.in-2.is))
      c.push_two_digits.ensures.0,
  c.push_two_digits.ensures.1,
)

pub returns-in_ok-push_last_digits-in_default : goal.returns-in_ok-push_last_digits-in_default
returns-in_ok-push_last_digits-in_default t c =
    let some : 0 < c.args.places = omega arith in (
      on_ok_weaker c.push_ascii-in_default.result
          (λ e. append_twice _ _ _ _ _ c.in_ok-push_last_digits-in_default.ensures.0 e ∙ ap (λ ds. string_bytes c.args.out.now ++ ds) (sym (last_digits-last c.args.places c.args.n some)))
          c.push_ascii-in_default.ensures.0,
      IsPrefix-trans _ _ _ c.in_ok-push_last_digits-in_default.ensures.1 c.push_ascii-in_default.ensures.1,
    )
