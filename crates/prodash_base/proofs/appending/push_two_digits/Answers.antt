use Rattle.std.proofs.Common.{◌++◌, ap, sym, ◌∙◌, string_bytes}
use Rattle.std.proofs.lemmas.Result.{on_ok_weaker}
use Rattle.prodash_base.proofs.Digits.{last_digits-two}
use Rattle.prodash_base.proofs.appending.push_two_digits.Goals as goal

pub returns : goal.returns
returns c = (
  on_ok_weaker c.push_ascii_bytes.result
      (λ e. e ∙ ap (λ ds. string_bytes c.args.out.now ++ ds) (sym (last_digits-two c.args.n c.requires)))
      c.push_ascii_bytes.ensures.0,
  c.push_ascii_bytes.ensures.1,
)
