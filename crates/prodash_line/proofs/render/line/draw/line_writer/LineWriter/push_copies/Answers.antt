use Rattle.std.proofs.Common.{ap, sym, ◌∙◌, ◌++◌, replicate, refl}
use Rattle.std.proofs.lemmas.List.{length-replicate}
use Rattle.prodash_line.proofs.Columns.{printable-repeated}
use Rattle.prodash_line.proofs.LineWriting.{appends_printable, take_copies}
use Rattle.prodash_line.proofs.render.line.draw.line_writer.LineWriter.push_copies.Goals as goal

pub returns : goal.returns
returns c =
    let counted = c.count_printable-count.ensures in
    appends_printable (replicate c.args.count c.args.character) c.args.count c.count_printable-count.result (printable-repeated c.args.count c.args.character c.requires.low c.requires.high) (length-replicate c.args.count c.args.character) counted
    (c.in_ok-push_copies.ensures ∙ ap (λ t. c.count_printable-count.new.self.bytes ++ t) (sym (take_copies c.count_printable-count.result c.args.count c.args.character counted.within)))
    (record { width = refl; limit = refl; room = refl })
