use Rattle.std.proofs.Common.{◌≡◌, ℕ, ◌-◌, ◌<◌, ◌≤◌, List, length, get_or, set, ap, ◌∙◌, rules, arith}
use Rattle.std.proofs.lemmas.List.Elements.{All-set}
use Rattle.prodash_tui.specs.declared.cell.Cell.{Cell}
use Rattle.prodash_tui.specs.Cells.{on_background}
use Rattle.prodash_tui.specs.Rows.{in_part}
use Rattle.prodash_tui.proofs.GridRows.{in_at, in_next, length-in_rows_any}
use Rattle.prodash_tui.proofs.grid.color_rows.Goals as goal

pub loop-k-preserved : goal.loop-k-preserved
loop-k-preserved c =
    let rows = c.args.rows.now.items in
    let first = c.args.first in
    let k = c.loop-k.k in
    let f = in_part c.args.x (c.args.end - c.args.x) (on_background c.args.color) in
    let old = c.index_mut.result.now in
    let inside : k < length rows = omega arith in
    let value : old ≡ get_or c.loop-k.rows.items k old = search rules in
    let fits : c.args.end ≤ length old = search rules in
    let same : old ≡ get_or rows k old = value ∙ ap (λ (rs : List (List Cell)). get_or rs k old) c.loop-k.invariant.rows ∙ in_at first k f rows old c.loop-k.auto.k inside in
    let colored : c.fill_background.new.self ≡ f (get_or rows k old) = c.fill_background.ensures ∙ ap f same in
    let width : length c.fill_background.new.self ≡ length old =
    ap length c.fill_background.ensures ∙ length-in_rows_any c.args.x (c.args.end - c.args.x) (on_background c.args.color) old in
    record {
      rows = ap (λ (r : List Cell). set c.loop-k.rows.items k r) colored
          ∙ ap (λ (rs : List (List Cell)). set rs k (f (get_or rows k old))) c.loop-k.invariant.rows
          ∙ in_next first k f rows old c.loop-k.auto.k inside;
      end = All-set (λ (r : List Cell). c.args.end ≤ length r) c.loop-k.rows.items k c.fill_background.new.self (omega arith) c.loop-k.invariant.end;
    }

pub returns : goal.returns
returns c =
    c.loop-k.invariant.rows
    ∙ ap (λ (n : ℕ). in_part c.args.first n (in_part c.args.x (c.args.end - c.args.x) (on_background c.args.color)) c.args.rows.now.items)
    (let e : c.loop-k.k - c.args.first ≡ c.args.last - c.args.first = omega arith in e)
