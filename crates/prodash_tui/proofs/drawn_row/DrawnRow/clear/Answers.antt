use Rattle.std.proofs.Common.{length, sym, ap, ◌∙◌}
use Rattle.prodash_tui.specs.Cells.{blank_cells}
use Rattle.prodash_tui.proofs.DrawnRows.{drawn_none, length-shown, shown_calls}
use Rattle.prodash_tui.proofs.drawn_row.DrawnRow.clear.Goals as goal

pub returns-else-not-self : goal.returns-else-not-self
returns-else-not-self c =
    let r = c.self.inside in
    shown_calls (record r { same = 0; changes = c.saturating_sub-self-inside.result }) c.if-not-self.false
    ∙ drawn_none (length r.cells) r.calls
    ∙ ap blank_cells (sym (length-shown r c.self.invariant) ∙ ap length c.self.view_is)
