use Rattle.std.proofs.Common.{ap, ◌∙◌, drop}
use Rattle.std.proofs.lemmas.List.{take_rest}
use Rattle.prodash_line.proofs.OverwriteBytes.{drop_min}
use Rattle.prodash_line.proofs.render.line.draw.frame.widths_below.Goals as goal

pub returns : goal.returns
returns c = take_rest c.args.widths.now c.min.result ∙ ap (λ n. drop n c.args.widths.now) c.min.ensures ∙ drop_min c.args.lines c.args.widths.now
