use Rattle.std.proofs.Common.{◌≡◌, None, Some, Option, ap}
use Rattle.prodash_base.specs.Rows.{row_of}
use Rattle.prodash_base.specs.Timers.{TimerState}
use Rattle.prodash_line.specs.ProgressRows.{times_at}
use Rattle.prodash_line.specs.plumbing.RowWriting.{time_of, DrawsProgress, DrawsFraction, DrawsInUnit}
use Rattle.prodash_line.specs.declared.render.line.draw.row.DrawnProgress.{DrawnProgress}
use Rattle.prodash_line.proofs.PlainProgress.{drawn_as, draws_by}
use Rattle.prodash_line.proofs.render.line.draw.row.push_plain.Goals as goal

-- without a timer there is no time
untimed : (drawn : DrawnProgress) → drawn.timer.now ≡ None → time_of drawn ≡ None
untimed drawn e = ap (λ (t : Option TimerState). times_at t drawn.at (row_of drawn.row.now)) e

pub returns-in_ok-plain-in-None-clause-drawn : goal.returns-in_ok-plain-in-None-clause-drawn
returns-in_ok-plain-in-None-clause-drawn c =
    let old = c.args.out.now in
    let drawn = c.args.drawn.now in
    let new = c.push_plain_fraction.new.out in
    drawn_as c.in_ok-plain-in-None.plain old new (DrawsFraction drawn) (DrawsProgress drawn)
    (λ own h. draws_by drawn.options.now drawn.midpoint drawn.value.now None drawn.throughput (time_of drawn) own old new c.requires.colored (untimed drawn c.requires.timer) c.in-None.is h) c.in_ok-plain-in-None.ensures

pub returns-in_ok-plain-in-Some-unit-clause-drawn : goal.returns-in_ok-plain-in-Some-unit-clause-drawn
returns-in_ok-plain-in-Some-unit-clause-drawn c =
    let old = c.args.out.now in
    let drawn = c.args.drawn.now in
    let unit = c.in-Some-unit.unit in
    let new = c.push_plain_unit.new.out in
    drawn_as c.in_ok-plain-in-Some-unit.plain old new (DrawsInUnit drawn unit) (DrawsProgress drawn)
    (λ own h. draws_by drawn.options.now drawn.midpoint drawn.value.now (Some unit) drawn.throughput (time_of drawn) own old new c.requires.colored (untimed drawn c.requires.timer) c.in-Some-unit.is (h drawn.options.now.defensive)) c.in_ok-plain-in-Some-unit.ensures.drawn
