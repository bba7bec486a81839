use Rattle.std.proofs.Common.{◌++◌, ap, sym, ◌∙◌, string_bytes, arith}
use Rattle.std.proofs.lemmas.Fmt.{decimal_digit}
use Rattle.std.proofs.lemmas.Result.{on_ok_weaker}
use Rattle.prodash_base.proofs.Digits.{decimal_two}
use Rattle.prodash_base.proofs.appending.push_below_100.Goals as goal

pub returns-then-n-ge10 : goal.returns-then-n-ge10
returns-then-n-ge10 c = (
  on_ok_weaker c.push_two_digits.result (λ e. e ∙ ap (λ ds. string_bytes c.args.out.now ++ ds) (decimal_two c.args.n (omega (arith, c.if-n-ge10.true)) c.requires)) c.push_two_digits.ensures.0,
  c.push_two_digits.ensures.1,
)

pub returns : goal.returns
returns c = (
  on_ok_weaker c.push_ascii.result (λ e. e ∙ ap (λ ds. string_bytes c.args.out.now ++ ds) (sym (decimal_digit c.args.n (omega (arith, c.if-n-ge10.false))))) c.push_ascii.ensures.0,
  c.push_ascii.ensures.1,
)
