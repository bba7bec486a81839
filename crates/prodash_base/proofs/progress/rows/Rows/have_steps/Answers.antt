use Rattle.std.proofs.Common.{rules, ◌≡◌, IsTrue, List, get_or, sym, subst, ◌∙◌, arith}
use Rattle.std.proofs.lemmas.List.{length-map}
use Rattle.std.proofs.lemmas.Option.{slice_get-get_or}
use Rattle.prodash_base.specs.Rows.{PathRow, row_of, rows_of}
use Rattle.prodash_base.specs.Steps.{with_steps}
use Rattle.prodash_base.proofs.SteppedRows.{row_at, with_steps-all, has_more, lacks_step}
use Rattle.prodash_base.proofs.progress.rows.Rows.have_steps.Goals as goal

pub returns-then-not-has_step : goal.returns-then-not-has_step
returns-then-not-has_step c =
    let steps = c.args.steps.now in
    let rows = c.self.inside.rows.items in
    let n = c.loop-n.n in
    let row = c.index.result.now in (
      λ no. search rules,
      λ all. subst IsTrue c.if-not-has_step.true (c.has_step.ensures.1 (lacks_step steps (rows_of rows) n (get_or steps n 0) (row_of row)
          (slice_get-get_or steps n 0 (omega arith)) (row_at rows n row (omega arith) c.index.ensures)
          (subst (λ (r : List PathRow). with_steps steps r ≡ r) (sym c.self.view_is) all))),
    )

pub loop-n-preserved : goal.loop-n-preserved
loop-n-preserved c =
    let steps = c.args.steps.now in
    let rows = c.self.inside.rows.items in
    let n = c.loop-n.n in
    let row = c.index.result.now in
    has_more steps (rows_of rows) n (get_or steps n 0) (row_of row) (slice_get-get_or steps n 0 (omega arith)) (row_at rows n row (omega arith) c.index.ensures)
    c.loop-n.invariant (c.if-not-has_step.ensures.0 (search rules))

pub returns : goal.returns
returns c =
    let steps = c.args.steps.now in
    let rows = rows_of c.self.inside.rows.items in (
      λ _. subst (λ (r : List PathRow). with_steps steps r ≡ r) c.self.view_is
          (sym (with_steps-all steps rows c.loop-n.n (omega (arith, length-map c.self.inside.rows.items row_of))) ∙ c.loop-n.invariant),
      λ _. search rules,
    )
