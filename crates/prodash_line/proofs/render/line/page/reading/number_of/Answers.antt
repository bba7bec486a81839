use Rattle.std.proofs.Common.{length, sym, arith}
use Rattle.std.proofs.lemmas.Bool.{eqb-true}
use Rattle.prodash_line.proofs.Decimals.{none_empty, none_zero, none_text, ok_case, err_case, ok_parsed}
use Rattle.prodash_line.proofs.render.line.page.reading.number_of.Goals as goal
use Rattle.prodash_line.proofs.render.line.page.reading.number_of.Goals.{then-is_empty-via-then-is_empty, then-is_empty-via-else-is_empty+then-digits-le48}

pub returns-then-is_empty : goal.returns-then-is_empty
returns-then-is_empty c n positive small e = elim c.then-is_empty.branch [
  | then-is_empty-via-then-is_empty w ↦ none_empty c.args.digits.now n small e (eqb-true (length c.args.digits.now) 0 (sym w.if-is_empty.ensures))
  | then-is_empty-via-else-is_empty+then-digits-le48 w ↦ none_zero c.args.digits.now n positive small e w.if-digits-le48.true
]

pub returns-in_err-ok : goal.returns-in_err-ok
returns-in_err-ok c = rw c.from_residual.ensures
    (λ n positive small e. none_text c.args.digits.now n small e (err_case c.from_utf8.result _ _ c.in_err-ok.ensures.value c.from_utf8.ensures.cases).1.0)

pub returns : goal.returns
returns c =
    let text = ok_case c.from_utf8.result _ _ _ c.in_ok-ok.ensures.value c.from_utf8.ensures.cases in
    rw c.ok-2.ensures.value (ok_parsed c.in_ok-ok.field-0.now c.args.digits.now c.parse.result c.parse.ensures.value.0 text.0 (omega arith))
