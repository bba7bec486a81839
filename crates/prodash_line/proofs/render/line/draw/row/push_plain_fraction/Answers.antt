use Rattle.std.proofs.Common.{◌≡◌, Some, ap, sym}
use Rattle.prodash_base.specs.Rows.{progress_of}
use Rattle.prodash_line.specs.plumbing.RowWriting.{AppendsText, DrawsFraction}
use Rattle.prodash_line.specs.ProgressRows.{fraction_of}
use Rattle.prodash_line.proofs.PlainProgress.{drawn_as, appends_fraction}
use Rattle.prodash_line.proofs.WrittenDigits.{printable_fraction}
use Rattle.prodash_line.proofs.render.line.draw.row.push_plain_fraction.Goals as goal

pub push_plain_text-requires-clause-printable : goal.push_plain_text-requires-clause-printable
push_plain_text-requires-clause-printable c = printable_fraction c.args.drawn.now.value.now.step (Some c.args.done_at)

pub returns : goal.returns
returns c =
    let old = c.args.out.now in
    let new = c.push_plain_text.new.out in
    let drawn = c.args.drawn.now in
    let p = progress_of drawn.value.now in
    let text = fraction_of drawn.value.now.step (Some c.args.done_at) in
    let is : text ≡ fraction_of drawn.value.now.step drawn.value.now.done_at = ap (fraction_of drawn.value.now.step) (sym c.requires) in
    drawn_as c.in_ok-plain.plain old new (AppendsText drawn.options.now.terminal_dimensions.0 drawn.options.now.bar_columns drawn.midpoint text p) (DrawsFraction drawn)
    (λ own h. appends_fraction old new drawn.options.now.terminal_dimensions.0 drawn.options.now.bar_columns drawn.midpoint own text p (printable_fraction drawn.value.now.step (Some c.args.done_at)) is h) c.in_ok-plain.ensures
