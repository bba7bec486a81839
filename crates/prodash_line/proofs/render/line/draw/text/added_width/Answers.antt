use Rattle.std.proofs.Common.{sym, ◌∙◌}
use Rattle.prodash_line.proofs.AddedWidths.{adds_own_or_none}
use Rattle.prodash_line.proofs.render.line.draw.text.added_width.Goals as goal

pub returns-then-adds_its_width : goal.returns-then-adds_its_width
returns-then-adds_its_width c =
    adds_own_or_none c.args.c c.width.result (sym c.adds_its_width.ensures ∙ c.if-adds_its_width.true) c.width.ensures.value
