use Rattle.std.proofs.Common.{◌≡◌, ◌++◌, ◌∙◌, ap, sym, string_bytes, arith}
use Rattle.std.proofs.lemmas.Result.{on_ok_weaker}
use Rattle.prodash_base.specs.Numerals.{after_point, without_zeros, last_digits}
use Rattle.prodash_base.proofs.Digits.{without_zeros-less, without_zeros-all, without_zeros-none}
use Rattle.prodash_base.proofs.appending.+push_without_zeros.Goals as goal
use Rattle.prodash_base.proofs.appending.+push_without_zeros.Goals.{else-places-gt0-via-then-places-gt0+else-n-eq0, else-places-gt0-via-else-places-gt0}

pub returns-then-n-eq0 : goal.returns-then-n-eq0
returns-then-n-eq0 t c = (
  on_ok_weaker c.push_without_zeros.result
      (λ e. e ∙ ap (λ ds. string_bytes c.args.out.now ++ after_point ds) (sym (without_zeros-less c.args.places c.args.n c.if-places-gt0.true c.if-n-eq0.true)))
      c.push_without_zeros.ensures.0,
  c.push_without_zeros.ensures.1,
)

pub returns-else-places-gt0 : goal.returns-else-places-gt0
returns-else-places-gt0 t c =
    let all : without_zeros (last_digits c.args.places c.args.n) ≡ last_digits c.args.places c.args.n =
    elim c.else-places-gt0.branch [
      | else-places-gt0-via-then-places-gt0+else-n-eq0 w ↦ without_zeros-all c.args.places c.args.n w.if-places-gt0.true w.if-n-eq0.false
      | else-places-gt0-via-else-places-gt0 w ↦ without_zeros-none c.args.places c.args.n (omega (arith, w.if-places-gt0.false))
    ] in (
      on_ok_weaker c.push_after_point.result
          (λ e. e ∙ ap (λ ds. string_bytes c.args.out.now ++ after_point ds) (sym all))
          c.push_after_point.ensures.0,
      c.push_after_point.ensures.1,
    )
