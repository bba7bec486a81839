use Rattle.std.proofs.Common.{◌≡◌, ℕ, ◌+◌, ◌-◌, List, refl, ap, ◌∙◌, arith}
use Rattle.prodash_base.specs.Rows.{rows_of}
use Rattle.prodash_tui.specs.Headlines.{headline_text}
use Rattle.prodash_tui.specs.Rects.{offset_x, snap_to_right}
use Rattle.prodash_tui.specs.Texts.{block_width}
use Rattle.prodash_tui.proofs.DrawnPieces.{shortened_as}
use Rattle.prodash_tui.proofs.draw.headline.headline.Goals as goal

pub returns-clause-ok : goal.returns-clause-ok
returns-clause-ok c =
    let area = c.args.bound in
    let text : c.as_str-text.result.now ≡ headline_text c.args.mode c.args.interval c.args.now.now (rows_of c.args.rows.now) = c.as_str-text.ensures.value ∙ c.in_ok-write_headline.ensures.ok in
    let width = block_width c.as_str-text.result.now in
    let drawn : c.block_width.result ≡ width = c.block_width.ensures in
    let left : area.width - c.saturating_add.result ≡ area.width - (width + 1) = omega arith in
    let right : c.snap_to_right-right.result ≡ snap_to_right area (block_width (headline_text c.args.mode c.args.interval c.args.now.now (rows_of c.args.rows.now)) + 1) =
    c.snap_to_right-right.ensures
    ∙ ap (offset_x area) left
    ∙ ap (λ (t : List ℕ). snap_to_right area (block_width t + 1)) text in
    c.draw_text_with_ellipsis.ensures ∙ shortened_as {g = c.args.grid.now} right c.bold.ensures text refl
