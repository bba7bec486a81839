use Rattle.std.proofs.Common.{◌≤◌, ◌∙◌, arith}
use Rattle.prodash_line.specs.CellRows.{char_columns, text_columns}
use Rattle.prodash_tui.specs.Grids.{room_of}
use Rattle.prodash_tui.specs.Texts.{drawn_text}
use Rattle.prodash_tui.proofs.FittingTexts.{fitting_text}
use Rattle.prodash_tui.proofs.draw.progress.tree.draw_measured.Goals as goal

pub returns-then-columns-room-clause-drawn : goal.returns-then-columns-room-clause-drawn
returns-then-columns-room-clause-drawn c =
    let text = c.args.text.now in
    let fits : text_columns char_columns (drawn_text text) ≤ room_of c.args.area c.args.grid.now = omega arith in
    c.draw_text.ensures ∙ fitting_text c.args.area c.args.style text c.args.grid.now fits
