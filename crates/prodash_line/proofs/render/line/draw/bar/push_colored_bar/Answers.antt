use Rattle.std.proofs.Common.{true, [], ◌∷◌, Some, ◌-◌, replicate, ap, subst}
use Rattle.prodash_line.specs.declared.render.line.draw.line_writer.LineWriter.{LineWriter}
use Rattle.prodash_line.specs.declared.render.line.page.style.Style.{Style}
use Rattle.prodash_line.specs.Lines.{styled}
use Rattle.prodash_line.specs.ProgressRows.{bar_with}
use Rattle.prodash_line.specs.plumbing.Writing.{AppendsIn}
use Rattle.prodash_line.proofs.LineWriting.{appends_as, appends_then}
use Rattle.prodash_line.proofs.render.line.draw.bar.push_colored_bar.Goals as goal

pub returns : goal.returns
returns c =
    let others = replicate (c.args.cells - c.args.filled) 45 in
    let dim = ap (λ (s : Style). styled (Some s) others ∷ []) c.dimmed.ensures in
    subst (λ (old : LineWriter). AppendsIn true old (bar_with c.args.style c.args.cells c.args.filled) c.push_printable-2.new.self) (c.in_ok-whole.ensures.nothing c.if-whole.false)
    (appends_then c.in_ok-push_printable.ensures
    (appends_then c.in_ok-push_repeated.ensures
    (appends_then c.in_ok-push_repeated-2.ensures
    (appends_then (appends_as dim c.in_ok-push_repeated-3.ensures) c.in_ok-push_printable-2.ensures))))
