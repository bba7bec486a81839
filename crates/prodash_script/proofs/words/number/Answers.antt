use Rattle.std.proofs.Common.{get_or, ap, rules, arith}
use Rattle.prodash_script.proofs.Numerals.{all_read, too_large}
use Rattle.prodash_script.proofs.words.number.Goals as goal

pub returns-in_err-checked_mul : goal.returns-in_err-checked_mul
returns-in_err-checked_mul c =
    let none = too_large c.args.word.now c.loop-digit.n c.loop-digit.digit-index c.loop-digit.invariant.1 (search rules) (search rules) (omega arith) in
    cc

pub returns-in_err-n : goal.returns-in_err-n
returns-in_err-n c =
    let same = ap (λ w. get_or w c.loop-digit.digit-index 0) c.as_bytes-digits.ensures.value in
    let none = too_large c.args.word.now c.loop-digit.n c.loop-digit.digit-index c.loop-digit.invariant.1 (search rules) (search rules) (omega (arith, same)) in
    cc

pub returns : goal.returns
returns c =
    let some = all_read c.args.word.now c.loop-digit.n c.loop-digit.digit-index c.loop-digit.invariant.1 (search rules) (search rules) (search rules) c.loop-digit.invariant.0 in
    cc
