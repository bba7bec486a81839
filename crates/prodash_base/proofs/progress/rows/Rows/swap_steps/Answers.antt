use Rattle.std.proofs.Common.{◌+◌, List, ap, sym, subst, set, get_or, length-set, ◌∙◌, arith}
use Rattle.std.proofs.lemmas.List.{length-map, map-set}
use Rattle.std.proofs.lemmas.Option.{slice_get-get_or}
use Rattle.prodash_base.specs.Rows.{PathRow, row_of, rows_of}
use Rattle.prodash_base.specs.Steps.{with_steps}
use Rattle.prodash_base.proofs.SteppedRows.{Swapped, row_at, swapped_more, with_steps-all}
use Rattle.prodash_base.proofs.progress.rows.Rows.swap_steps.Goals as goal

pub loop-n-preserved : goal.loop-n-preserved
loop-n-preserved c =
    let old = c.args.steps.now in
    let old_rows = rows_of c.self.inside.rows.items in
    let steps = c.loop-n.steps in
    let rows = c.loop-n.self-inside.rows.items in
    let n = c.loop-n.n in
    let row = c.index_mut.result.now in
    let new_row = c.swap_step.new.row in
    let new_step = c.swap_step.new.step in
    record {
      long = length-set rows n new_row ∙ c.loop-n.invariant.long;
      swapped = subst (λ (r : List PathRow). Swapped old old_rows (set steps n new_step) r (n + 1)) (sym (map-set row_of rows n new_row))
          (swapped_more old old_rows steps (rows_of rows) n (get_or steps n 0) new_step (row_of row) (row_of new_row)
          (slice_get-get_or steps n 0 (omega arith)) (row_at rows n row (omega arith) c.index_mut.ensures.value)
          c.swap_step.ensures.after c.swap_step.ensures.back c.loop-n.invariant.swapped);
    }

pub returns : goal.returns
returns c =
    let steps = c.loop-n.steps in
    let rows = rows_of c.loop-n.self-inside.rows.items in
    let old = c.args.steps.now in
    let old_rows = rows_of c.self.inside.rows.items in
    record {
      after = c.loop-n.invariant.swapped.after ∙ with_steps-all old old_rows c.loop-n.n (omega (arith, length-map c.self.inside.rows.items row_of))
          ∙ ap (with_steps old) c.self.view_is;
      back = sym (with_steps-all steps rows c.loop-n.n (omega (arith, length-map c.loop-n.self-inside.rows.items row_of)))
          ∙ c.loop-n.invariant.swapped.back ∙ c.self.view_is;
    }
