use Rattle.std.proofs.Common.{◌≡◌, ◌++◌, ap, subst, ◌∙◌, arith}
use Rattle.std.specs.Bool.{then_some}
use Rattle.prodash_line.specs.declared.render.line.draw.line_writer.LineWriter.{LineWriter}
use Rattle.prodash_line.specs.ProgressRows.{fraction_of, fraction_values}
use Rattle.prodash_line.specs.TextStyles.{values_style}
use Rattle.prodash_line.specs.plumbing.RowWriting.{after_padding}
use Rattle.prodash_line.specs.plumbing.Writing.{style_of_length, open_bytes, reset_bytes, AppendsIn}
use Rattle.prodash_line.proofs.LineWriting.{appends_counted, appends_then}
use Rattle.prodash_line.proofs.WrittenDigits.{printable_fraction}
use Rattle.prodash_line.proofs.render.line.draw.row.push_padded_fraction.Goals as goal

pub returns : goal.returns
returns c =
    let a = c.args in
    let text = fraction_of a.step a.done_at in
    let style = then_some a.colored values_style in
    let count = c.count_printable-count.result in
    let shown : c.style_of_length-style.result ≡ style_of_length style count =
    c.style_of_length-style.ensures ∙ ap (λ s. style_of_length s c.from.result) (c.then_some.ensures ∙ ap (then_some a.colored) c.values_style.ensures) ∙ ap (style_of_length style) c.from.ensures in
    subst (λ (old : LineWriter). AppendsIn a.colored old (after_padding a.padding (fraction_values a.step a.done_at)) c.reset_style.new.self) (c.in_ok-whole.ensures.nothing c.if-whole.false)
    (appends_then c.in_ok-push_gap.ensures
    (appends_counted style text _ count (printable_fraction a.step a.done_at) (omega (arith, c.requires.values)) c.count_printable-count.ensures
    (c.in_ok-open_style.ensures.bytes ∙ ap (λ s. c.count_printable-count.new.self.bytes ++ open_bytes s) shown) c.in_ok-open_style.ensures.line
    c.in_ok-push_fraction.ensures.bytes c.in_ok-push_fraction.ensures.line
    (c.in_ok-reset_style.ensures.bytes ∙ ap (λ s. c.push_fraction.new.self.bytes ++ reset_bytes s) shown) c.in_ok-reset_style.ensures.line))
