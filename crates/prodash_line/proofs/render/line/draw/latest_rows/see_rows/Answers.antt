use Rattle.std.proofs.Common.{ap, sym, ◌∙◌, List, Option, Some}
use Rattle.prodash_base.specs.Rows.{PathRow, rows_of}
use Rattle.prodash_base.specs.Steps.{with_steps}
use Rattle.prodash_line.specs.Renderer.{latest_rows}
use Rattle.prodash_line.specs.declared.render.line.draw.earlier_rows.SeenRows.{SeenRows}
use Rattle.prodash_line.specs.plumbing.EarlierRows.{rows_seen}
use Rattle.prodash_line.proofs.EarlierRows.{nothing_with_steps}
use Rattle.prodash_line.proofs.render.line.draw.latest_rows.see_rows.Goals as goal

pub returns-in-None-clause-latest : goal.returns-in-None-clause-latest
returns-in-None-clause-latest c =
    let steps = c.in-Steps.steps.items in
    c.replace-in-None.ensures.after
    ∙ ap Some (c.new-in-None.ensures ∙ ap rows_of c.new.ensures.items ∙ sym (nothing_with_steps steps))
    ∙ sym (ap (λ (seen : SeenRows). Some (rows_seen seen (latest_rows c.args.rows.now))) c.in-Steps.is
    ∙ ap (λ (rows : Option (List PathRow)). Some (with_steps steps (latest_rows rows))) c.in-None.is)
