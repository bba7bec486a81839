use Rattle.std.proofs.Common.{◌≡◌, true, Some, ◌++◌, codes, refl, sym, ◌∙◌}
use Rattle.prodash_line.specs.ProgressRows.{fraction_of}
use Rattle.prodash_line.specs.plumbing.Writing.{is_printable}
use Rattle.prodash_line.proofs.Columns.{printable-append}
use Rattle.prodash_line.proofs.WrittenDigits.{printable_fraction}
use Rattle.prodash_line.proofs.render.line.draw.row.push_labelled.Goals as goal

pub push_plain_text-requires-clause-printable : goal.push_plain_text-requires-clause-printable
push_plain_text-requires-clause-printable c =
    let label : is_printable c.args.label.now ≡ true = sym c.is_all_printable.ensures ∙ c.if-not-is_all_printable.false in
    printable-append (fraction_of c.args.drawn.now.value.now.step (Some c.args.done_at)) (codes " " ++ c.args.label.now) (printable_fraction c.args.drawn.now.value.now.step (Some c.args.done_at))
    (printable-append (codes " ") c.args.label.now refl label)
