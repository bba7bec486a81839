use Rattle.std.proofs.Common.{◌++◌, take, ap, sym, ◌∙◌, arith}
use Rattle.std.proofs.lemmas.Fmt.{decimal_digit}
use Rattle.prodash_line.proofs.WrittenDigits.{count_one, count_two, decimal_two}
use Rattle.prodash_line.proofs.render.line.byte_buffer.put_below_100.Goals as goal

pub put_byte-requires : goal.put_byte-requires
put_byte-requires c = omega (arith, c.requires.room, count_one c.args.n (omega (arith, c.if-n-lt10.true)))

pub returns-then-n-lt10-clause-end : goal.returns-then-n-lt10-clause-end
returns-then-n-lt10-clause-end c = omega (arith, c.put_byte.ensures.end, count_one c.args.n (omega (arith, c.if-n-lt10.true)))

pub returns-then-n-lt10-clause-put : goal.returns-then-n-lt10-clause-put
returns-then-n-lt10-clause-put c =
    c.put_byte.ensures.put ∙ ap (λ ds. take c.args.at c.args.bytes.now ++ ds) (sym (decimal_digit c.args.n (omega (arith, c.if-n-lt10.true))))

pub put_two_digits-requires-clause-room : goal.put_two_digits-requires-clause-room
put_two_digits-requires-clause-room c = omega (arith, c.requires.room, count_two c.args.n (omega (arith, c.if-n-lt10.false)) c.requires.small)

pub returns-clause-end : goal.returns-clause-end
returns-clause-end c = omega (arith, c.put_two_digits.ensures.end, count_two c.args.n (omega (arith, c.if-n-lt10.false)) c.requires.small)

pub returns-clause-put : goal.returns-clause-put
returns-clause-put c =
    c.put_two_digits.ensures.put ∙ ap (λ ds. take c.args.at c.args.bytes.now ++ ds) (decimal_two c.args.n (omega (arith, c.if-n-lt10.false)) c.requires.small)
