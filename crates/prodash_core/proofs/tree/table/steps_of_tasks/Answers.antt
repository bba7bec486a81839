use Rattle.std.proofs.Common.{rules, ◌≡◌, ◌<◌, ◌+◌, ◌∷◌, [], ap, drop, get_or, length, map, refl, sym, ◌∙◌}
use Rattle.std.proofs.lemmas.List.{drop_all, length-append}
use Rattle.prodash_base.specs.Rows.{row_of, rows_of}
use Rattle.prodash_core.specs.Tables.{pair_of}
use Rattle.prodash_core.proofs.StepsOfTasks.{steps_begin, steps_more, no_steps, other_length, other_end, row_and_behind, steps_all}
use Rattle.prodash_core.proofs.tree.table.steps_of_tasks.Goals.{then-rows-len-via-then-rows-len, then-rows-len-via-else-rows-len+then-not-end_alike}
use Rattle.prodash_core.proofs.tree.table.steps_of_tasks.Goals as goal

pub returns-then-rows-len-clause-none : goal.returns-then-rows-len-clause-none
returns-then-rows-len-clause-none g c = λ _.
    let shows = g.N.Counters.shows c.args.counters.now in
    elim c.then-rows-len.branch [
      | then-rows-len-via-then-rows-len w ↦ other_length shows c.args.tasks.now.entries c.args.rows.now (λ same. w.if-rows-len.true (same ∙ sym c.len.ensures.len))
      | then-rows-len-via-else-rows-len+then-not-end_alike w ↦ other_end shows c.args.tasks.now.entries c.args.rows.now (λ same. absurd (search (rules, w.end_alike.ensures.1 same)))
    ]

pub loop-key-init : goal.loop-key-init
loop-key-init g c =
    let cleared : c.reserve.new.self.items ≡ [] = search rules in (
      steps_begin (g.N.Counters.shows c.args.counters.now) (map pair_of c.args.tasks.now.entries) (rows_of c.args.rows.now) c.reserve.new.self.items (map pair_of c.into_iter-key-iterator.result)
          (rows_of (drop (length c.reserve.new.self.items) c.args.rows.now)) cleared (search rules) (ap (λ steps. rows_of (drop (length steps) c.args.rows.now)) cleared),
      search rules,
      search rules,
    )

pub loop-key-preserved : goal.loop-key-preserved
loop-key-preserved g c =
    let rows = c.args.rows.now in
    let row = c.index-rows-len.result in
    let done = length c.loop-key.steps.items in
    let pushed : length c.push_reserved.new.self.items ≡ done + 1 = ap length c.push_reserved.ensures.items ∙ length-append c.loop-key.steps.items (c.in-Some-step_over.step ∷ []) in
    let counted : c.len-in-loop-key.result ≡ done = search rules in
    let at : row ≡ get_or rows done row = c.index-rows-len.is ∙ ap (λ n. get_or rows n row) counted in
    let inside : done < length rows = search rules in (
      steps_more (g.N.Counters.shows c.args.counters.now) (map pair_of c.args.tasks.now.entries) (rows_of rows) c.loop-key.steps.items (map pair_of c.loop-key.key-iterator) (rows_of (drop done rows)) c.loop-key.invariant.0
          (pair_of (c.in-Some.key.now, c.in-Some.task.now)) (map pair_of c.next.new.self) (search rules) (row_of row) (rows_of (drop (length c.push_reserved.new.self.items) rows)) (row_and_behind rows done _ row at inside pushed)
          c.in-Some-step_over.step (rw c.as_ref.ensures at c.in-Some-step_over.ensures.some) c.push_reserved.new.self.items c.push_reserved.ensures.items,
      search rules,
      search rules,
    )

pub returns-in-None-step_over-clause-none : goal.returns-in-None-step_over-clause-none
returns-in-None-step_over-clause-none g c = λ _.
    let rows = c.args.rows.now in
    let row = c.index-rows-len.result in
    let done = length c.loop-key.steps.items in
    let counted : c.len-in-loop-key.result ≡ done = search rules in
    let at : row ≡ get_or rows done row = c.index-rows-len.is ∙ ap (λ n. get_or rows n row) counted in
    let inside : done < length rows = search rules in
    no_steps (g.N.Counters.shows c.args.counters.now) (map pair_of c.args.tasks.now.entries) (rows_of rows) c.loop-key.steps.items (map pair_of c.loop-key.key-iterator) (rows_of (drop done rows)) c.loop-key.invariant.0
    (pair_of (c.in-Some.key.now, c.in-Some.task.now)) (map pair_of c.next.new.self) (search rules) (row_of row) (rows_of (drop (done + 1) rows)) (row_and_behind rows done (done + 1) row at inside refl)
    ((rw c.as_ref.ensures at c.in-None-step_over.ensures.none) refl)

pub returns-clause-some : goal.returns-clause-some
returns-clause-some g c =
    let rows = c.args.rows.now in
    let done = length c.loop-key.steps.items in
    steps_all (g.N.Counters.shows c.args.counters.now) (map pair_of c.args.tasks.now.entries) (rows_of rows) c.loop-key.steps.items (map pair_of c.loop-key.key-iterator) (rows_of (drop done rows)) c.loop-key.invariant.0
    (search rules) (ap rows_of (drop_all done rows (search rules)))
