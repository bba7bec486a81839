use Rattle.std.proofs.Common.{◌≡◌, IfSome, refl, sym, subst, ◌∙◌}
use Rattle.std.proofs.lemmas.Bool.{ltb-false}
use Rattle.std.proofs.lemmas.Option.{slice_get_past, slice_get_read}
use Rattle.prodash_base.specs.Rows.{row_of, rows_of}
use Rattle.prodash_base.specs.Steps.{with_step}
use Rattle.prodash_base.proofs.SteppedRows.{slice_get-has_step, slice_get-past_steps}
use Rattle.prodash_line.proofs.render.line.draw.latest_rows.RowsBefore.has_step.Goals as goal

pub returns-in-None : goal.returns-in-None
returns-in-None c = λ _ is.
    let e = c.args.self.now in
    slice_get-past_steps e.steps.now (rows_of e.rows.now) c.args.index (slice_get_past e.steps.now c.args.index (ltb-false c.args.index _ (sym c.in-None.ensures.lookup.0))) ∙ is

pub returns-in-Some : goal.returns-in-Some
returns-in-Some c = λ has is.
    let e = c.args.self.now in
    let row = row_of c.args.row.now in
    let known = c.in-Some.ensures.lookup in
    let step = c.in-Some.step.now in
    slice_get-has_step e.steps.now (rows_of e.rows.now) c.args.index row
    (subst (λ found. IfSome found (λ step. with_step step row ≡ row)) (sym (slice_get_read e.steps.now _ c.args.index step refl known.3.0 known.1)) (c.has_step.ensures.0 has)) is
