use Rattle.std.proofs.Common.{◌≡◌, refl, ◌∙◌, ap}
use Rattle.prodash_core.specs.declared.render.tui.event.Rect.{Rect}
use Rattle.prodash_tui.specs.Rects.{offset_x}
use Rattle.prodash_tui.specs.Panes.{vertical_line}
use Rattle.prodash_tui.specs.MessagePanes.{arrow}
use Rattle.prodash_tui.proofs.DrawnPieces.{shortened_as}
use Rattle.prodash_tui.proofs.draw.messages.draw_columns.Goals as goal

pub returns-clause-ok : goal.returns-clause-ok
unfolding lib.Utf8.encode
returns-clause-ok c =
    let row = c.args.row in
    let plain = c.new-plain.ensures in
    let time = c.draw_text_with_ellipsis.ensures ∙ shortened_as {a = row} {g = c.args.grid.now} refl plain (c.as_str.ensures.value ∙ c.in_ok-time.ensures.ok) refl in
    let behind_time = c.draw_text_with_ellipsis-2.ensures ∙ shortened_as {other = vertical_line} c.offset_x.ensures plain refl time in
    let level = c.draw_text_with_ellipsis-3.ensures ∙ shortened_as c.offset_x-level.ensures c.level_style.ensures c.level_text.ensures behind_time in
    let behind_level = c.draw_text_with_ellipsis-4.ensures ∙ shortened_as {other = vertical_line} c.offset_x-2.ensures plain refl level in
    let origin = c.draw_text_with_ellipsis-5.ensures ∙ shortened_as c.offset_x-origin.ensures plain c.as_str-2.ensures behind_level in
    let at : c.offset_x-3.result ≡ offset_x (offset_x row 14) c.args.width = c.offset_x-3.ensures ∙ ap (λ (r : Rect). offset_x r c.args.width) c.offset_x-origin.ensures in
    c.draw_text_with_ellipsis-6.ensures ∙ shortened_as {other = arrow} at plain refl origin
