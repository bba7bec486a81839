use Rattle.std.proofs.Common.{◌++◌, ap, sym, ◌∙◌, replicate, refl}
use Rattle.std.proofs.lemmas.List.{length-replicate}
use Rattle.prodash_line.specs.plumbing.Writing.{style_of_length, open_bytes, reset_bytes}
use Rattle.prodash_line.proofs.Columns.{printable-repeated}
use Rattle.prodash_line.proofs.LineWriting.{same_then}
use Rattle.prodash_line.proofs.Written.{line_bytes-printable, styled_bytes}
use Rattle.prodash_line.proofs.render.line.draw.line_writer.LineWriter.push_run.Goals as goal

pub returns-clause-bytes : goal.returns-clause-bytes
returns-clause-bytes c =
    let text = replicate c.args.count c.args.character in
    let style = c.style_of_length-style.ensures ∙ ap (style_of_length c.args.style) c.from.ensures in
    styled_bytes c.args.self.now.bytes c.open_style.new.self.bytes c.push_copies.new.self _ c.args.style text text c.args.count
    (line_bytes-printable text (printable-repeated c.args.count c.args.character c.requires.low c.requires.high)) (sym (length-replicate c.args.count c.args.character))
    (c.in_ok-open_style.ensures.bytes ∙ ap (λ s. c.args.self.now.bytes ++ open_bytes s) style)
    c.in_ok-push_copies.ensures
    (c.in_ok-reset_style.ensures.bytes ∙ ap (λ s. c.push_copies.new.self ++ reset_bytes s) style)

pub returns-clause-line : goal.returns-clause-line
returns-clause-line c =
    same_then c.in_ok-open_style.ensures.line (same_then (record { width = refl; limit = refl; room = refl }) c.in_ok-reset_style.ensures.line)
