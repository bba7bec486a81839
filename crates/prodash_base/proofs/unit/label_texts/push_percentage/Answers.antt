use Rattle.std.proofs.Common.{◌++◌, ap, sym, ◌∙◌, string_bytes, codes, arith}
use Rattle.std.proofs.lemmas.Fmt.{decimal_digit}
use Rattle.std.proofs.lemmas.Result.{on_ok_weaker}
use Rattle.prodash_base.proofs.Digits.{decimal-tens}
use Rattle.prodash_base.proofs.unit.label_texts.push_percentage.Goals as goal

pub returns-then-percentage-lt10 : goal.returns-then-percentage-lt10
returns-then-percentage-lt10 c = (
  on_ok_weaker c.push_ascii_bytes.result
      (λ e. e ∙ ap (λ ds. string_bytes c.args.out.now ++ (codes "[" ++ ds ++ codes "%]")) (sym (decimal_digit c.args.percentage (omega (arith, c.if-percentage-lt10.true)))))
      c.push_ascii_bytes.ensures.0,
  c.push_ascii_bytes.ensures.1,
)

pub returns-then-percentage-lt100 : goal.returns-then-percentage-lt100
returns-then-percentage-lt100 c = (
  on_ok_weaker c.push_ascii_bytes-then-percentage-lt100.result
      (λ e. e ∙ ap (λ ds. string_bytes c.args.out.now ++ (codes "[" ++ ds ++ codes "%]")) (sym (decimal-tens c.args.percentage (omega (arith, c.if-percentage-lt10.false)) (omega (arith, c.if-percentage-lt100.true)))))
      c.push_ascii_bytes-then-percentage-lt100.ensures.0,
  c.push_ascii_bytes-then-percentage-lt100.ensures.1,
)
