use Rattle.std.proofs.Common.{◌≡◌, ℕ, ◌<◌, ◌∷◌, [], List, sym, ap, ◌∙◌, arith}
use Rattle.prodash_line.specs.CellRows.{char_columns, text_columns}
use Rattle.prodash_tui.specs.declared.style.Style.{Style}
use Rattle.prodash_tui.specs.Cells.{plain}
use Rattle.prodash_tui.specs.Grids.{Sheet, with_shortened}
use Rattle.prodash_tui.specs.Panes.{vertical_line}
use Rattle.prodash_tui.specs.Texts.{drawn_text}
use Rattle.prodash_tui.proofs.OverdrawnLines.{line_hidden}
use Rattle.prodash_tui.proofs.PaneRows.{line_bytes}
use Rattle.prodash_tui.proofs.draw.progress.row.draw_on_line.Goals as goal

pub returns-then-columns-gt0 : goal.returns-then-columns-gt0
returns-then-columns-gt0 c =
    let line = c.args.line in
    let branches = c.args.branches.now in
    let grid = c.args.grid.now in
    let some : 0 < text_columns char_columns (drawn_text branches) = omega arith in
    c.draw_measured.ensures.drawn
    ∙ ap (λ (s : Style). with_shortened line s branches grid) c.new.ensures
    ∙ sym (line_hidden line branches grid c.draw_measured.ensures.sheet some)

pub returns : goal.returns
returns c =
    let line = c.args.line in
    let branches = c.args.branches.now in
    let first : c.draw_text_with_ellipsis.new.self ≡ with_shortened line plain vertical_line c.args.grid.now =
    c.draw_text_with_ellipsis.ensures
    ∙ ap (λ (s : Style). with_shortened line s (0xE2 ∷ 0x94 ∷ 0x82 ∷ []) c.args.grid.now) c.new-2.ensures
    ∙ ap (λ (t : List ℕ). with_shortened line plain t c.args.grid.now) line_bytes in
    c.draw_text_with_ellipsis-2.ensures
    ∙ ap (λ (s : Style). with_shortened line s branches c.draw_text_with_ellipsis.new.self) c.new-3.ensures
    ∙ ap (λ (g : Sheet). with_shortened line plain branches g) first
