use Rattle.std.proofs.Common.{◌≡◌, ◌<◌, List, length, set, ap, ◌∙◌, rules}
use Rattle.std.proofs.lemmas.List.{length-replicate}
use Rattle.std.proofs.lemmas.List.Elements.{All-set}
use Rattle.prodash_tui.specs.declared.cell.Cell.{Cell}
use Rattle.prodash_tui.specs.Cells.{blank_cell, blank_cells}
use Rattle.prodash_tui.proofs.SplicedRows.{blank_next}
use Rattle.prodash_tui.proofs.grid.clear_rows.Goals as goal

pub loop-k-preserved : goal.loop-k-preserved
loop-k-preserved c =
    let rows = c.args.rows.now.items in
    let k = c.loop-k.k in
    let width = c.args.width in
    let inside : k < length rows = search rules in
    let old : length c.index_mut.result.now ≡ width = search rules in
    let blank : c.clear.new.self ≡ blank_cells width = c.clear.ensures ∙ ap blank_cells old in
    record {
      rows = ap (λ (r : List Cell). set c.loop-k.rows.items k r) blank
          ∙ ap (λ (rs : List (List Cell)). set rs k (blank_cells width)) c.loop-k.invariant.rows
          ∙ blank_next k rows (blank_cells width) inside;
      width = All-set (λ (r : List Cell). length r ≡ width) c.loop-k.rows.items k c.clear.new.self (ap length blank ∙ length-replicate width blank_cell) c.loop-k.invariant.width;
    }
