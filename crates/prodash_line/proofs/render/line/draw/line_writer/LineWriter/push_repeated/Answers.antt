use Rattle.std.proofs.Common.{[], ◌∷◌, ◌+◌, ◌++◌, ap, sym, ◌∙◌, replicate}
use Rattle.std.proofs.lemmas.List.{length-replicate}
use Rattle.prodash_line.specs.Lines.{styled, capped}
use Rattle.prodash_line.specs.plumbing.Writing.{line_bytes}
use Rattle.prodash_line.proofs.Columns.{printable-repeated, width-repeated}
use Rattle.prodash_line.proofs.LineWriting.{appends_piece, take_copies}
use Rattle.prodash_line.proofs.render.line.draw.line_writer.LineWriter.push_repeated.Goals as goal

pub returns : goal.returns
returns c =
    let old = c.args.self.now in
    let text = replicate c.args.count c.args.character in
    let counted = c.count_printable-count.ensures in
    let count = c.count_printable-count.result in
    let fits = counted.fits text (printable-repeated c.args.count c.args.character c.requires.low c.requires.high) (length-replicate c.args.count c.args.character) in
    let line = c.in_ok-push_run.ensures.line in
    let written = fits.written ∙ take_copies count c.args.count c.args.character counted.within in
    appends_piece old c.push_run.new.self (styled c.args.style text)
    (c.in_ok-push_run.ensures.bytes ∙ ap (λ bs. bs ++ line_bytes (styled c.args.style (replicate count c.args.character) ∷ [])) counted.bytes
    ∙ ap (λ t. old.bytes ++ line_bytes (styled c.args.style t ∷ [])) (sym written))
    (line.width ∙ counted.width ∙ ap (λ n. capped (old.width + n)) (sym (width-repeated c.args.count c.args.character c.requires.low c.requires.high)))
    (line.limit ∙ counted.limit) (line.room ∙ fits.after)
