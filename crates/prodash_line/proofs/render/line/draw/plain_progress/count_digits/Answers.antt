use Rattle.std.proofs.Common.{sym, arith}
use Rattle.prodash_line.proofs.WrittenDigits.{count_one, count_two, count_three, count_four}
use Rattle.prodash_line.proofs.render.line.draw.plain_progress.count_digits.Goals as goal

pub returns-in-0-to-9-clause-count : goal.returns-in-0-to-9-clause-count
returns-in-0-to-9-clause-count c = sym (count_one c.args.n (omega (arith, c.in-0-to-9)))

pub returns-in-10-to-99-clause-count : goal.returns-in-10-to-99-clause-count
returns-in-10-to-99-clause-count c = sym (count_two c.args.n (omega (arith, c.in-10-to-99)) (omega (arith, c.in-10-to-99)))

pub returns-in-100-to-999-clause-count : goal.returns-in-100-to-999-clause-count
returns-in-100-to-999-clause-count c = sym (count_three c.args.n (omega (arith, c.in-100-to-999)) (omega (arith, c.in-100-to-999)))

pub returns-in-1000-to-9999-clause-count : goal.returns-in-1000-to-9999-clause-count
returns-in-1000-to-9999-clause-count c = sym (count_four c.args.n (omega (arith, c.in-1000-to-9999)) (omega (arith, c.in-1000-to-9999)))
