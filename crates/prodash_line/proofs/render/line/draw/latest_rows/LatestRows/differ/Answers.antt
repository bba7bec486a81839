use Rattle.std.proofs.Common.{◌≡◌, ◌↔◌, ℕ, IsTrue, subst, ap, sym, ◌∙◌, List, Option, Some}
use Rattle.prodash_base.specs.Rows.{PathRow}
use Rattle.prodash_base.specs.Steps.{with_steps}
use Rattle.prodash_line.specs.Renderer.{latest_rows, rows_changed}
use Rattle.prodash_line.specs.declared.render.line.draw.earlier_rows.EarlierRows.{EarlierRows}
use Rattle.prodash_line.specs.plumbing.EarlierRows.{rows_before}
use Rattle.prodash_line.proofs.EarlierRows.{changed_steps, nothing_changed}
use Rattle.prodash_line.proofs.render.line.draw.latest_rows.LatestRows.differ.Goals as goal

pub returns-in-None-rows : goal.returns-in-None-rows
returns-in-None-rows c =
    nothing_changed c.in-Same.steps.items
    ∙ sym (ap (λ (before : EarlierRows). rows_changed (rows_before before (latest_rows c.args.self.now)) (latest_rows c.args.self.now)) c.in-Same.is
    ∙ ap (λ (rows : Option (List PathRow)). rows_changed (Some (with_steps c.in-Same.steps.items (latest_rows rows))) (latest_rows rows)) (sym c.self.view_is ∙ c.in-None-rows.is))

pub returns-in-Some-rows : goal.returns-in-Some-rows
returns-in-Some-rows c =
    let steps = c.in-Same.steps.items in
    let rows = c.in-Some-rows.rows in
    let have = subst (λ (steps : List ℕ). IsTrue c.have_steps.result ↔ (with_steps steps rows ≡ rows)) c.deref.ensures.value c.have_steps.ensures in
    changed_steps steps rows c.have_steps.result have.0 have.1
    ∙ sym (ap (λ (before : EarlierRows). rows_changed (rows_before before (latest_rows c.args.self.now)) (latest_rows c.args.self.now)) c.in-Same.is
    ∙ ap (λ (rows : Option (List PathRow)). rows_changed (Some (with_steps steps (latest_rows rows))) (latest_rows rows)) (sym c.self.view_is ∙ c.in-Some-rows.is))
