use Rattle.std.proofs.Common.{◌++◌, ap, ◌∙◌, string_bytes, arith}
use Rattle.std.proofs.lemmas.Result.{on_ok_weaker}
use Rattle.prodash_base.proofs.Prefixes.{append_twice, IsPrefix-trans}
use Rattle.prodash_base.proofs.Digits.{decimal_pair}
use Rattle.prodash_base.proofs.appending.push_from_100.Goals as goal

pub returns-then-n-lt10000 : goal.returns-then-n-lt10000
returns-then-n-lt10000 c = (
  on_ok_weaker c.push_two_digits.result
      (λ e. append_twice _ _ _ _ _ c.in_ok-push_below_100.ensures.0 e ∙ ap (λ ds. string_bytes c.args.out.now ++ ds) (decimal_pair c.args.n c.requires (omega (arith, c.if-n-lt10000.true))))
      c.push_two_digits.ensures.0,
  IsPrefix-trans _ _ _ c.in_ok-push_below_100.ensures.1 c.push_two_digits.ensures.1,
)
