use Rattle.std.proofs.Common.{◌++◌, ap, sym, ◌∙◌}
use Rattle.prodash_line.specs.ProgressRows.{fraction_of}
use Rattle.prodash_line.proofs.RowLines.{parts_written}
use Rattle.prodash_line.proofs.render.line.draw.line_writer.LineWriter.push_cut_fraction.Goals as goal

pub returns-clause-bytes : goal.returns-clause-bytes
returns-clause-bytes c =
    let first = c.as_bytes.result.now in
    let second = c.as_bytes-2.result.now in
    let third = c.as_bytes-3.result.now in
    parts_written c.args.self.now.bytes _ _ _ (fraction_of c.args.step c.args.done_at) first second third c.args.limit _ _
    (c.format_bound.ensures.text c.args.step
    ∙ ap (λ t. t ++ (c.format_bound.result.0.now ++ c.format_bound.result.1.now)) (sym (c.as_bytes.ensures.value ∙ c.format-step.ensures.text))
    ∙ ap (λ t. first ++ (t ++ c.format_bound.result.1.now)) (sym c.as_bytes-2.ensures.value)
    ∙ ap (λ t. first ++ (second ++ t)) (sym c.as_bytes-3.ensures.value))
    c.in_ok-limit.ensures.bytes c.in_ok-limit.ensures.more c.in_ok-limit-2.ensures.bytes c.in_ok-limit-2.ensures.more c.in_ok-push_prefix.ensures.bytes
