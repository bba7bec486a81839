use Rattle.std.proofs.Common.{◌≡◌, true, ◌∷◌, [], chars, Some, sym, ap, ◌∙◌, arith}
use Rattle.std.specs.Bool.{then_some}
use Rattle.prodash_line.specs.Lines.{piece, columns_of}
use Rattle.prodash_line.specs.plumbing.Writing.{is_printable}
use Rattle.prodash_line.proofs.Columns.{width-ascii}
use Rattle.prodash_line.proofs.render.line.draw.text.printable_width.Goals as goal

pub returns-then-is_all_printable : goal.returns-then-is_all_printable
returns-then-is_all_printable c =
    let text = c.args.text.now in
    let printable : is_printable text ≡ true = ap is_printable (sym c.as_bytes.ensures.value) ∙ sym c.is_all_printable.ensures ∙ c.if-is_all_printable.true in
    let width : c.capped.result ≡ columns_of (piece (chars text) ∷ []) = omega (arith, c.capped.ensures, width-ascii text printable) in
    ap Some width ∙ ap (λ b. then_some b (columns_of (piece (chars text) ∷ []))) (sym printable)
