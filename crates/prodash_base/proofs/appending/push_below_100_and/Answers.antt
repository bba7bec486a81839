use Rattle.std.proofs.Common.{◌++◌, ◌∷◌, [], ap, sym, ◌∙◌, string_bytes, arith}
use Rattle.std.proofs.lemmas.Fmt.{decimal_digit}
use Rattle.std.proofs.lemmas.Result.{on_ok_weaker}
use Rattle.prodash_base.proofs.Digits.{decimal-tens}
use Rattle.prodash_base.proofs.appending.push_below_100_and.Goals as goal

pub returns-then-n-lt10 : goal.returns-then-n-lt10
returns-then-n-lt10 c = (
  on_ok_weaker c.push_ascii_bytes.result
      (λ e. e ∙ ap (λ ds. string_bytes c.args.out.now ++ (ds ++ c.args.byte ∷ [])) (sym (decimal_digit c.args.n (omega (arith, c.if-n-lt10.true)))))
      c.push_ascii_bytes.ensures.0,
  c.push_ascii_bytes.ensures.1,
)

pub returns : goal.returns
returns c = (
  on_ok_weaker c.push_ascii_bytes-2.result
      (λ e. e ∙ ap (λ ds. string_bytes c.args.out.now ++ (ds ++ c.args.byte ∷ [])) (sym (decimal-tens c.args.n (omega (arith, c.if-n-lt10.false)) c.requires.small)))
      c.push_ascii_bytes-2.ensures.0,
  c.push_ascii_bytes-2.ensures.1,
)
