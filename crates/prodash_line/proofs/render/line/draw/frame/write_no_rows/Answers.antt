use Rattle.std.proofs.Common.{[], ◌++◌, refl, ap, sym, ◌∙◌, append-nil}
use Rattle.prodash_line.specs.Signs.{spelling}
use Rattle.prodash_line.specs.Frames.{lines_start}
use Rattle.prodash_line.proofs.render.line.draw.frame.write_no_rows.Goals as goal

pub returns : goal.returns
returns c =
    let old = c.args.out.now.bytes in
    c.in_ok-finish_redraw.ensures.redraw old [] refl (c.in_ok-start_lines.ensures ∙ ap (λ t. old ++ t) (sym (append-nil (spelling (lines_start c.args.layout)))))
