use Rattle.std.proofs.Common.{◌≡◌, [], ap, sym, subst, ◌∙◌, arith}
use Rattle.std.proofs.lemmas.List.{drop_all}
use Rattle.prodash_base.specs.Rows.{rows_of}
use Rattle.prodash_base.specs.Timers.{with_timings, HoldsMarks}
use Rattle.prodash_base.proofs.Marks.{rows_hold}
use Rattle.prodash_base.proofs.timing.table.with_timings.Goals as goal

pub returns-clause-marks : goal.returns-clause-marks
returns-clause-marks c =
    let rows = c.args.rows.now in
    let ok : c.loop-row.timings.items ≡ with_timings c.args.before.now c.args.now [] (rows_of rows) =
    ap (λ left. with_timings c.args.before.now c.args.now c.loop-row.timings.items (rows_of left)) (sym (drop_all c.loop-row.row-index rows (omega (arith, c.loop-row-test.false))))
    ∙ c.loop-row.invariant.rest in
    subst HoldsMarks (sym ok) (rows_hold c.args.before.now c.args.now [] (rows_of rows) c.requires.marks tt)
