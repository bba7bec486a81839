use Rattle.std.proofs.Common.{◌++◌, ap, sym, ◌∙◌, string_bytes}
use Rattle.std.proofs.lemmas.Result.{on_ok_weaker}
use Rattle.prodash_base.proofs.Digits.{after_point-one, after_point-two}
use Rattle.prodash_base.proofs.appending.push_short_after_point.Goals as goal

pub returns-in-1 : goal.returns-in-1
returns-in-1 c = (
  on_ok_weaker c.push_ascii_bytes.result
      (λ e. e ∙ ap (λ ds. string_bytes c.args.out.now ++ ds) (sym (after_point-one c.args.places c.args.n c.in-1.is)))
      c.push_ascii_bytes.ensures.0,
  c.push_ascii_bytes.ensures.1,
)

pub returns-in-2 : goal.returns-in-2
returns-in-2 c = (
  on_ok_weaker c.push_ascii_bytes-in-2.result
      (λ e. e ∙ ap (λ ds. string_bytes c.args.out.now ++ ds) (sym (after_point-two c.args.places c.args.n c.in-2.is)))
      c.push_ascii_bytes-in-2.ensures.0,
  c.push_ascii_bytes-in-2.ensures.1,
)
