use Rattle.std.proofs.Common.{sym, ◌∙◌}
use Rattle.prodash_line.proofs.DrawnTexts.{drawn_as_is}
use Rattle.prodash_line.proofs.render.line.draw.drawn_text.drawn_new_name.Goals as goal

pub keep-requires : goal.keep-requires
keep-requires c = record {
  drawn = λ defensive. drawn_as_is defensive c.args.name.now (sym c.has_unsafe.ensures ∙ c.if-has_unsafe.false);
  columns = c.text_width-width.ensures;
}

pub returns-clause-text : goal.returns-clause-text
returns-clause-text c = drawn_as_is c.args.defensive c.args.name.now (sym c.has_unsafe.ensures ∙ c.if-has_unsafe.false)
