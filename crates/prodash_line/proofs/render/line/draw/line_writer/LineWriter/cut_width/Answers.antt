use Rattle.std.proofs.Common.{ap, ◌∙◌, ◌-◌, arith}
use Rattle.prodash_line.proofs.LineWriting.{width_limited, width_unlimited}
use Rattle.prodash_line.proofs.render.line.draw.line_writer.LineWriter.cut_width.Goals as goal

pub returns-in-Some : goal.returns-in-Some
returns-in-Some c = λ limit before line h.
    c.saturating_sub.ensures ∙ ap (λ n. c.in-Some.columns - n) c.columns_left.ensures ∙ width_limited line c.in-Some.columns h c.in-Some.is (omega arith)

pub returns-in-None : goal.returns-in-None
returns-in-None c = λ limit before line h. width_unlimited line h c.in-None.is
