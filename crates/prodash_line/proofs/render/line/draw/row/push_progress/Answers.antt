use Rattle.std.proofs.Common.{◌≡◌, subst, ◌∙◌}
use Rattle.prodash_line.specs.declared.render.line.draw.line_writer.LineWriter.{LineWriter}
use Rattle.prodash_line.specs.plumbing.RowWriting.{DrawsProgress, OrNothing}
use Rattle.prodash_line.proofs.render.line.draw.row.push_progress.Goals as goal
use Rattle.prodash_line.proofs.render.line.draw.row.push_progress.Goals.{then-not-drawn+then-is_none+then-width+in_ok-plain+in_default, else-not-drawn}

pub returns-clause-drawn : goal.returns-clause-drawn
returns-clause-drawn c =
    let drawn = c.args.drawn.now in
    -- nothing was written before
    let same : c.if-not-drawn.out ≡ c.args.out.now = elim c.if-not-drawn.branch [
      | then-not-drawn+then-is_none+then-width+in_ok-plain+in_default w ↦ w.out-is ∙ subst (OrNothing c.args.out.now w.push_plain.new.out (DrawsProgress drawn)) w.in_default.is w.in_ok-plain.ensures.drawn
      | else-not-drawn w ↦ w.out-is
    ] in
    subst (λ (old : LineWriter). DrawsProgress drawn c.in_ok-own.own old c.push_copy_in_parts.new.out) same c.in_ok-own.ensures.drawn
