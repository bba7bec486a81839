use Rattle.std.proofs.Common.{◌≡◌, Option, ap, sym, subst, ◌∙◌, arith}
use Rattle.prodash_base.specs.declared.timing.task_time.TaskTime.{TaskTime}
use Rattle.prodash_line.specs.ProgressRows.{fitting_time}
use Rattle.prodash_line.specs.plumbing.RowWriting.{AppendsTime}
use Rattle.prodash_line.specs.plumbing.Writing.{is_printable}
use Rattle.prodash_line.proofs.TimeTexts.{printable-fitting_time, shows_time}
use Rattle.prodash_line.proofs.render.line.draw.row_time.push_task_time.Goals as goal

text_is : (c : goal.After-as_bytes) → c.as_bytes.result.now ≡ fitting_time c.from.result c.in-Some.time
text_is c = c.as_bytes.ensures.value ∙ c.as_str.ensures.value ∙ c.in_ok-write_fitting_time.ensures

pub push_printable-requires-clause-printable : goal.push_printable-requires-clause-printable
push_printable-requires-clause-printable c = ap is_printable (text_is c) ∙ printable-fitting_time c.from.result c.in-Some.time

pub returns : goal.returns
returns c =
    let options = c.args.options.now in
    let width = options.terminal_dimensions.0 in
    let old = c.args.out.now in
    let new = c.push_printable.new.self in
    subst (λ (time : Option TaskTime). AppendsTime options.colored options.defensive width time old new) (sym c.in-Some.is)
    (shows_time options.colored options.defensive width c.from.result c.in-Some.time c.as_bytes.result.now old new
    (c.as_bytes.ensures.value ∙ c.as_str.ensures.value ∙ c.in_ok-write_fitting_time.ensures) (omega (arith, c.from.ensures, c.saturating_sub-left.ensures, c.width.ensures)) c.in_ok-push_printable.ensures)
