use Rattle.prodash_tui.specs.Cells.{on_background}
use Rattle.prodash_tui.proofs.BlankParts.{blank_changed}
use Rattle.prodash_tui.proofs.grid_row.GridRow.fill_background.Goals as goal

pub invariant_of-self : goal.invariant_of-self
invariant_of-self c =
    let apart = c.without-self-inside.ensures in
    blank_changed c.self.inside.blank c.without-self-inside.result c.args.x c.args.end (on_background c.args.color) c.self.inside.row c.fill_background.new.self c.self.invariant
    c.fill_background.ensures c.requires.order apart.from apart.order apart.within apart.apart
