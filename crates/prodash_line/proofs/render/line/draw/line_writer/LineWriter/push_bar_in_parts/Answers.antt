use Rattle.std.proofs.Common.{[], ◌∷◌, ◌-◌, ◌++◌, Some, ap, ◌∙◌, replicate}
use Rattle.prodash_line.specs.declared.render.line.page.style.Style.{Style}
use Rattle.prodash_line.specs.Lines.{styled}
use Rattle.prodash_line.specs.plumbing.Writing.{line_bytes}
use Rattle.prodash_line.proofs.StyledBars.{bar_parts}
use Rattle.prodash_line.proofs.render.line.draw.line_writer.LineWriter.push_bar_in_parts.Goals as goal

pub returns-clause-bytes : goal.returns-clause-bytes
returns-clause-bytes c =
    let n = c.args.cells - c.args.filled in
    bar_parts c.args.style c.args.cells c.args.filled c.args.self.now.bytes _ _ _ _ _
    c.in_ok-extend_from_slice.ensures c.in_ok-push_run.ensures.bytes c.in_ok-push_run-2.ensures.bytes
    (c.in_ok-push_run-3.ensures.bytes ∙ ap (λ (s : Style). c.push_run-2.new.self.bytes ++ line_bytes (styled (Some s) (replicate n 45) ∷ [])) c.dimmed.ensures)
    c.in_ok-push.ensures
