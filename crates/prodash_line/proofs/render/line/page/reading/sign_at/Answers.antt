use Rattle.std.proofs.Common.{◌<◌, length, sym, arith}
use Rattle.std.proofs.lemmas.Bool.{eqb-true, eqb-false}
use Rattle.prodash_line.proofs.SignPrefixes.{none_empty, no_escape, no_bracket, no_control}
use Rattle.prodash_line.proofs.render.line.page.reading.sign_at.Goals as goal

pub returns-then-is_empty : goal.returns-then-is_empty
returns-then-is_empty c = none_empty c.args.bytes.now (eqb-true (length c.args.bytes.now) 0 (sym c.if-is_empty.ensures))

pub returns-in_err-strip_prefix-in-27 : goal.returns-in_err-strip_prefix-in-27
returns-in_err-strip_prefix-in-27 c =
    let some : 0 < length c.args.bytes.now = omega (arith, eqb-false (length c.args.bytes.now) 0 (sym c.if-is_empty.ensures)) in
    rw c.from_residual.ensures (no_escape c.args.bytes.now some c.in-27.is (no_bracket c.args.bytes.now c.in_err-strip_prefix-in-27.ensures.cases some c.in-27.is))

pub returns-then-is_control : goal.returns-then-is_control
returns-then-is_control c = no_control c.args.bytes.now c.in_ok-c-in_default.rest.now c.in_ok-c-in_default.c (λ e. omega arith) (λ e. omega arith) (λ e. omega arith) c.in_ok-c-in_default.ensures (sym c.if-is_control.ensures)
