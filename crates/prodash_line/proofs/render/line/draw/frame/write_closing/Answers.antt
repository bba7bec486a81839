use Rattle.std.proofs.Common.{[], ◌++◌, ap, sym, ◌∙◌, append_assoc}
use Rattle.prodash_line.specs.Signs.{spelling}
use Rattle.prodash_line.specs.Frames.{redraw}
use Rattle.prodash_line.specs.Renderer.{ending_of}
use Rattle.prodash_line.proofs.Written.{spelling-append}
use Rattle.prodash_line.proofs.render.line.draw.frame.write_closing.Goals as goal

pub returns : goal.returns
returns c =
    let old = c.args.out.now.bytes in
    let blanks = redraw c.args.layout c.args.widths.now [] in
    let ending = ending_of c.args.past.now in
    c.in_ok-write_ending.ensures
    ∙ ap (λ t. t ++ spelling ending) c.in_ok-write_no_rows.ensures
    ∙ append_assoc old (spelling blanks) (spelling ending)
    ∙ ap (λ t. old ++ t) (sym (spelling-append blanks ending))
