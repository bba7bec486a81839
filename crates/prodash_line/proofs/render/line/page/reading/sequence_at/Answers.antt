use Rattle.std.proofs.Common.{arith}
use Rattle.prodash_line.proofs.SignPrefixes.{none_short, none_made}
use Rattle.prodash_line.proofs.render.line.page.reading.sequence_at.Goals as goal

pub returns-then-len-bytes : goal.returns-then-len-bytes
returns-then-len-bytes c = none_short c.args.bytes.now (omega (arith, c.parameters_len-len.ensures))

pub returns-in_err-sign : goal.returns-in_err-sign
returns-in_err-sign c = rw c.from_residual.ensures (none_made c.args.bytes.now c.parameters_len-len.result c.parameters_len-len.ensures c.in_err-sign.ensures)
