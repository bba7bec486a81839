use Rattle.std.proofs.Common.{◌≡◌, ◌-◌, ◌≤◌, length, replicate, ap, arith}
use Rattle.prodash_line.specs.CellRows.{char_columns}
use Rattle.prodash_line.specs.DrawnLines.{safe_char}
use Rattle.prodash_tui.specs.Texts.{filling, text_cells}
use Rattle.prodash_tui.proofs.WrittenTexts.{length-cut}
use Rattle.prodash_tui.proofs.BlankParts.{blank_drawn}
use Rattle.prodash_tui.proofs.grid_row.GridRow.fill.Goals as goal

pub invariant_of-self : goal.invariant_of-self
invariant_of-self c =
    let room = c.args.end - c.args.x in
    let new = filling c.args.style (c.args.end - c.args.x) c.args.c in
    let fits : length new ≤ room = length-cut room (text_cells char_columns c.args.style (replicate room (safe_char c.args.c))) in
    let size : length c.self.inside.row ≡ length c.args.self.now = ap length c.self.view_is in
    let apart = c.without-self-inside.ensures in
    blank_drawn c.self.inside.blank c.without-self-inside.result c.args.x c.fill-behind.result new c.self.inside.row c.fill-behind.new.self c.self.invariant
    c.fill-behind.ensures.cells c.fill-behind.ensures.behind (omega arith) apart.from apart.order apart.within apart.apart
