use Rattle.std.proofs.Common.{◌≡◌, ◌-◌, ◌<◌, List, set, length, ap, ◌∙◌, rules, vec_len, arith}
use Rattle.std.proofs.lemmas.List.Elements.{All-set}
use Rattle.prodash_line.specs.CellRows.{blank_cells}
use Rattle.prodash_line.specs.declared.render.line.page.cell.Cell.{Cell}
use Rattle.prodash_line.proofs.ErasedRows.{erase_next}
use Rattle.prodash_line.proofs.render.line.page.blank_rows.Goals as goal

pub loop-row-preserved : goal.loop-row-preserved
loop-row-preserved c =
    let rows = c.args.rows.now.items in
    let row = c.loop-row.row in
    let columns = c.args.columns in
    let len : vec_len c.args.rows.now ≡ length rows = search rules in
    let below : row < length rows = omega arith in
    let old = c.index_mut.result.now in
    let width : length old ≡ columns = search rules in
    let blank : c.blank_from.new.self ≡ blank_cells columns = c.blank_from.ensures.cells ∙ ap blank_cells (let e : length old - 0 ≡ columns = omega arith in e) in
    record {
      rows = ap (λ (r : List Cell). set c.loop-row.rows.items row r) blank
          ∙ ap (λ (rs : List (List Cell)). set rs row (blank_cells columns)) c.loop-row.invariant.rows
          ∙ erase_next c.args.first row rows (blank_cells columns) (search rules) below;
      width = All-set (λ (r : List Cell). length r ≡ columns) c.loop-row.rows.items row c.blank_from.new.self (c.blank_from.ensures.width ∙ width) c.loop-row.invariant.width;
    }
