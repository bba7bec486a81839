use Rattle.std.proofs.Common.{◌≡◌, ℕ, ◌-◌, ◌<◌, List, length, get_or, set, ap, ◌∙◌, rules, arith}
use Rattle.prodash_tui.specs.declared.cell.Cell.{Cell}
use Rattle.prodash_tui.specs.Cells.{on_background}
use Rattle.prodash_tui.specs.Rows.{in_part}
use Rattle.prodash_tui.proofs.GridRows.{in_at, in_next}
use Rattle.prodash_tui.proofs.row.color_cells.Goals as goal

pub loop-k-preserved : goal.loop-k-preserved
loop-k-preserved c =
    let cells = c.args.cells.now.items in
    let first = c.args.first in
    let k = c.loop-k.k in
    let f = on_background c.args.color in
    let old = c.index_mut.result.now in
    let inside : k < length cells = omega arith in
    let value : old ≡ get_or c.loop-k.cells.items k old = search rules in
    let same : old ≡ get_or cells k old = value ∙ ap (λ (cs : List Cell). get_or cs k old) c.loop-k.invariant ∙ in_at first k f cells old c.loop-k.auto.k inside in
    let changed : c.color_cell.new.cell ≡ f (get_or cells k old) = c.color_cell.ensures ∙ ap f same in
    ap (λ (a : Cell). set c.loop-k.cells.items k a) changed
    ∙ ap (λ (cs : List Cell). set cs k (f (get_or cells k old))) c.loop-k.invariant
    ∙ in_next first k f cells old c.loop-k.auto.k inside

pub returns : goal.returns
returns c =
    c.loop-k.invariant
    ∙ ap (λ (n : ℕ). in_part c.args.first n (on_background c.args.color) c.args.cells.now.items)
    (let e : c.loop-k.k - c.args.first ≡ c.args.last - c.args.first = omega arith in e)
