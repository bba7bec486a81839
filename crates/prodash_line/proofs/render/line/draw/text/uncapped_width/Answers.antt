use Rattle.std.proofs.Common.{ap, sym, ◌∙◌}
use Rattle.prodash_line.specs.plumbing.Writing.{is_printable}
use Rattle.prodash_line.proofs.Columns.{width-ascii}
use Rattle.prodash_line.proofs.render.line.draw.text.uncapped_width.Goals as goal

pub returns-then-is_all_printable : goal.returns-then-is_all_printable
returns-then-is_all_printable c = width-ascii c.args.text.now (ap is_printable (sym c.as_bytes.ensures.value) ∙ sym c.is_all_printable.ensures ∙ c.if-is_all_printable.true)
