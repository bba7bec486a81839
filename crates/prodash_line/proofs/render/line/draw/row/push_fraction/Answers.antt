use Rattle.std.proofs.Common.{arith}
use Rattle.prodash_line.specs.ProgressRows.{fraction_of, fraction_values}
use Rattle.prodash_line.proofs.RowLines.{text_end, padded_to}
use Rattle.prodash_line.proofs.WrittenDigits.{printable_fraction}
use Rattle.prodash_line.proofs.render.line.draw.row.push_fraction.Goals as goal

pub returns-clause-end : goal.returns-clause-end
returns-clause-end c =
    text_end (fraction_of c.args.step c.args.done_at) c.args.out.now.width c.fraction_columns-values.result c.saturating_add-own.result
    (printable_fraction c.args.step c.args.done_at) c.fraction_columns-values.ensures.columns
    (omega (arith, c.saturating_add-own.ensures, c.saturating_add.ensures, c.width.ensures))

pub returns-clause-line : goal.returns-clause-line
returns-clause-line c =
    padded_to c.args.colored c.args.midpoint c.saturating_add-own.result c.saturating_sub-padding.result (fraction_values c.args.step c.args.done_at)
    (returns-clause-end c) c.saturating_sub-padding.ensures c.in_ok-push_padded_fraction.ensures
