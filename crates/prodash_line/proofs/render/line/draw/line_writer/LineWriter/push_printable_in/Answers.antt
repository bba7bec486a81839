use Rattle.std.proofs.Common.{◌++◌, refl, ap, ◌∙◌}
use Rattle.prodash_line.specs.plumbing.Writing.{style_of_length, open_bytes, reset_bytes}
use Rattle.prodash_line.proofs.LineWriting.{appends_counted}
use Rattle.prodash_line.proofs.render.line.draw.line_writer.LineWriter.push_printable_in.Goals as goal

pub returns : goal.returns
returns c =
    let counted = c.count_printable-written.ensures in
    let written = c.count_printable-written.result in
    let style = c.style_of_length-style.ensures ∙ ap (style_of_length c.args.style) c.from.ensures in
    appends_counted c.args.style c.args.text.now _ written c.requires.printable refl counted
    (c.in_ok-open_style.ensures.bytes ∙ ap (λ s. c.count_printable-written.new.self.bytes ++ open_bytes s) style) c.in_ok-open_style.ensures.line
    c.in_ok-push_prefix.ensures.bytes c.in_ok-push_prefix.ensures.line
    (c.in_ok-reset_style.ensures.bytes ∙ ap (λ s. c.push_prefix.new.self.bytes ++ reset_bytes s) style) c.in_ok-reset_style.ensures.line
