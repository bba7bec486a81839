use Rattle.std.proofs.Common.{◌∷◌, ◌++◌, refl, ap, sym, ◌∙◌, arith}
use Rattle.std.specs.Fmt.{decimal}
use Rattle.prodash_line.specs.ProgressRows.{fraction_of}
use Rattle.prodash_line.specs.plumbing.Writing.{is_printable}
use Rattle.prodash_line.proofs.Columns.{printable-decimal}
use Rattle.prodash_line.proofs.render.line.draw.line_writer.format_bound.Goals as goal

pub returns-in-Some : goal.returns-in-Some
returns-in-Some c = record {
  text = λ step. ap (fraction_of step) c.in-Some.is ∙ ap (λ t. decimal step ++ 47 ∷ t) (sym c.format.ensures.text);
  slash = refl;
  bound = ap is_printable c.format.ensures.text ∙ printable-decimal c.in-Some.bound;
  short = omega arith;
}
