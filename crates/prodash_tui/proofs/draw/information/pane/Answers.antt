use Rattle.std.proofs.Common.{◌≡◌, ap, ◌∙◌}
use Rattle.std.specs.Prelude.{codes}
use Rattle.prodash_core.specs.declared.render.tui.event.Rect.{Rect}
use Rattle.prodash_tui.specs.declared.style.Style.{Style}
use Rattle.prodash_tui.specs.Cells.{plain}
use Rattle.prodash_tui.specs.Grids.{with_filling}
use Rattle.prodash_tui.specs.InformationPanes.{information_keys, lines_bound, with_lines}
use Rattle.prodash_tui.specs.Panes.{with_head}
use Rattle.prodash_tui.specs.Rects.{bottom_of}
use Rattle.prodash_tui.proofs.draw.information.pane.Goals as goal

pub returns : goal.returns
unfolding lib.Utf8.encode
returns c =
    let area = c.args.bound in
    let lines = c.args.lines.now in
    let filled : c.fill.new.self ≡ with_filling (bottom_of area) plain 0x2500 c.args.grid.now =
    c.fill.ensures
    ∙ ap (λ (a : Rect). with_filling a c.new.result 0x2500 c.args.grid.now) c.bottom_of.ensures
    ∙ ap (λ (s : Style). with_filling (bottom_of area) s 0x2500 c.args.grid.now) c.new.ensures in
    c.draw_lines.ensures
    ∙ ap (λ (a : Rect). with_lines a 0 lines c.draw_head.new.grid) c.lines_bound.ensures
    ∙ ap (with_lines (lines_bound area) 0 lines) (c.draw_head.ensures ∙ ap (with_head area (codes "Information") information_keys) filled)
