use Rattle.std.proofs.Common.{◌≡◌, ℕ, ◌+◌, ◌-◌, length, ap, ◌∙◌, arith}
use Rattle.prodash_base.specs.Rows.{rows_of}
use Rattle.prodash_tui.specs.declared.style.Color.TheVariants.{Red, Green}
use Rattle.prodash_tui.specs.Bars.{bar_columns, with_bar}
use Rattle.prodash_tui.specs.Grids.{with_background}
use Rattle.prodash_tui.specs.ProgressPanes.{hidden, mean_share, with_text_on}
use Rattle.prodash_tui.specs.Rects.{offset_x}
use Rattle.prodash_tui.specs.RowTexts.{hidden_text, keys_text}
use Rattle.prodash_tui.specs.Texts.{block_width}
use Rattle.prodash_tui.proofs.PaneRows.{keys_bytes, length_rows}
use Rattle.prodash_tui.proofs.draw.progress.hidden.draw_hidden.Goals as goal

pub returns-clause-drawn : goal.returns-clause-drawn
returns-clause-drawn c =
    let rows = rows_of c.args.rows.now in
    let area = c.args.area in
    let offset = c.args.offset in
    let end = offset + c.args.shown in
    let share : c.mean_share-share.result ≡ mean_share (hidden offset c.args.shown rows) = c.mean_share-share.ensures in
    let filled : c.bar_columns-filled.result ≡ bar_columns area.width (mean_share (hidden offset c.args.shown rows)) 1000000 =
    c.bar_columns-filled.ensures ∙ ap (λ (s : ℕ). bar_columns area.width s 1000000) share in
    let bar : c.draw_bar.new.grid ≡ with_bar area (mean_share (hidden offset c.args.shown rows)) 1000000 Green c.args.grid.now =
    c.draw_bar.ensures ∙ ap (λ (s : ℕ). with_bar area s 1000000 Green c.args.grid.now) share in
    let behind : c.offset_x.result ≡ offset_x area (bar_columns area.width (mean_share (hidden offset c.args.shown rows)) 1000000 - 1) =
    c.offset_x.ensures ∙ ap (λ (n : ℕ). offset_x area n) (c.saturating_sub-2.ensures ∙ ap (λ (n : ℕ). n - 1) filled) in
    let above : c.from-3.result ≡ offset = omega arith in
    let below : c.saturating_sub.result ≡ length rows - end = omega (arith, length_rows c.args.rows.now) in
    let label : c.as_str.result.now ≡ hidden_text c.args.tree offset (length rows - end) =
    c.as_str.ensures.value ∙ c.in_ok-write_hidden.ensures.ok ∙ (λ i. hidden_text c.args.tree (above i) (below i)) in
    let column : c.saturating_sub-keys.result ≡ area.width - block_width keys_text =
    c.saturating_sub-keys.ensures ∙ ap (λ (n : ℕ). area.width - n) (c.block_width.ensures ∙ ap block_width keys_bytes) in
    let colored : c.fill_background.new.self
    ≡ with_background (offset_x area (bar_columns area.width (mean_share (hidden offset c.args.shown rows)) 1000000 - 1)) Red
    (with_bar area (mean_share (hidden offset c.args.shown rows)) 1000000 Green c.args.grid.now) =
    c.fill_background.ensures ∙ (λ i. with_background (behind i) Red (bar i)) in
    let labelled : c.draw_text_on.new.grid
    ≡ with_text_on area (bar_columns area.width (mean_share (hidden offset c.args.shown rows)) 1000000) c.args.tree (hidden_text c.args.tree offset (length rows - end))
    (with_background (offset_x area (bar_columns area.width (mean_share (hidden offset c.args.shown rows)) 1000000 - 1)) Red
    (with_bar area (mean_share (hidden offset c.args.shown rows)) 1000000 Green c.args.grid.now)) =
    c.draw_text_on.ensures ∙ (λ i. with_text_on area (filled i) c.args.tree (label i) (colored i)) in
    c.draw_text_on-2.ensures ∙ (λ i. with_text_on area (filled i) (column i) (keys_bytes i) (labelled i))
