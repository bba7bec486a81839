use Rattle.std.proofs.Common.{◌≡◌, ◌-◌, ◌≤◌, length, ap, arith}
use Rattle.prodash_line.specs.CellRows.{char_columns}
use Rattle.prodash_tui.specs.Texts.{drawn_text, text_cells, text_shortened}
use Rattle.prodash_tui.proofs.WrittenTexts.{length-shortened}
use Rattle.prodash_tui.proofs.BlankParts.{blank_drawn}
use Rattle.prodash_tui.proofs.grid_row.GridRow.draw_shortened.Goals as goal

pub invariant_of-self : goal.invariant_of-self
invariant_of-self c =
    let room = c.args.end - c.args.x in
    let new = text_shortened c.args.style (c.args.end - c.args.x) c.args.text.now in
    let fits : length new ≤ room = length-shortened c.args.style room (text_cells char_columns c.args.style (drawn_text c.args.text.now)) in
    let size : length c.self.inside.row ≡ length c.args.self.now = ap length c.self.view_is in
    let apart = c.without-self-inside.ensures in
    blank_drawn c.self.inside.blank c.without-self-inside.result c.args.x c.draw_shortened-behind.result new c.self.inside.row c.draw_shortened-behind.new.self c.self.invariant
    c.draw_shortened-behind.ensures.cells c.draw_shortened-behind.ensures.behind (omega arith) apart.from apart.order apart.within apart.apart
