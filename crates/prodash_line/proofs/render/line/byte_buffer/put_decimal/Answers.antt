use Rattle.std.proofs.Common.{◌++◌, ◌/◌, ◌%◌, take, ap, ◌∙◌, arith, append_assoc}
use Rattle.std.specs.Fmt.{decimal}
use Rattle.prodash_line.specs.plumbing.RowWriting.{two_digits}
use Rattle.prodash_line.proofs.WrittenDigits.{count_pair, decimal_pair}
use Rattle.prodash_line.proofs.render.line.byte_buffer.put_decimal.Goals as goal

pub put_below_100-at-requires-clause-room : goal.put_below_100-at-requires-clause-room
put_below_100-at-requires-clause-room c = omega (arith, c.requires, count_pair c.args.n (omega (arith, c.if-n-lt100.false)) (omega (arith, c.if-n-lt10000.true)))

pub put_two_digits-requires-clause-room : goal.put_two_digits-requires-clause-room
put_two_digits-requires-clause-room c =
    omega (arith, c.requires, c.put_below_100-at.ensures.end, c.put_below_100-at.ensures.length, count_pair c.args.n (omega (arith, c.if-n-lt100.false)) (omega (arith, c.if-n-lt10000.true)))

pub returns-then-n-lt10000-clause-end : goal.returns-then-n-lt10000-clause-end
returns-then-n-lt10000-clause-end c =
    omega (arith, c.put_two_digits.ensures.end, c.put_below_100-at.ensures.end, count_pair c.args.n (omega (arith, c.if-n-lt100.false)) (omega (arith, c.if-n-lt10000.true)))

pub returns-then-n-lt10000-clause-put : goal.returns-then-n-lt10000-clause-put
returns-then-n-lt10000-clause-put c =
    let before = take c.args.at c.args.bytes.now in
    c.put_two_digits.ensures.put ∙ ap (λ ds. ds ++ two_digits (c.args.n % 100)) c.put_below_100-at.ensures.put
    ∙ append_assoc before (decimal (c.args.n / 100)) (two_digits (c.args.n % 100))
    ∙ ap (λ ds. before ++ ds) (decimal_pair c.args.n (omega (arith, c.if-n-lt100.false)) (omega (arith, c.if-n-lt10000.true)))
