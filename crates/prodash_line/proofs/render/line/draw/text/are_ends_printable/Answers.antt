use Rattle.std.proofs.Common.{◌-◌, ◌&&◌, take, length, ap, ◌∙◌}
use Rattle.std.proofs.lemmas.List.{take_rest}
use Rattle.prodash_line.specs.plumbing.Writing.{is_printable}
use Rattle.prodash_line.proofs.Columns.{printable-ends}
use Rattle.prodash_line.proofs.render.line.draw.text.are_ends_printable.Goals as goal

pub returns : goal.returns
returns c =
    let text = c.args.text.now in
    let first = is_printable (take c.args.size text) in
    ap (λ b. b && c.is_block_printable-last.result) c.is_block_printable-first.ensures
    ∙ ap (λ b. first && b)
    (c.is_block_printable-last.ensures ∙ ap is_printable (take_rest text (length text - c.args.size)))
    ∙ printable-ends c.args.size text c.requires.few
