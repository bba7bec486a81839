use Rattle.std.proofs.Common.{◌≡◌, ℕ, ◌-◌, ◌<◌, ◌≤◌, List, length, get_or, set, ap, ◌∙◌, rules, arith}
use Rattle.std.proofs.lemmas.List.Elements.{All-set}
use Rattle.prodash_tui.specs.declared.cell.Cell.{Cell}
use Rattle.prodash_tui.specs.Grids.{in_rows}
use Rattle.prodash_tui.specs.Rows.{splice}
use Rattle.prodash_tui.specs.Texts.{filling}
use Rattle.prodash_tui.proofs.GridRows.{in_at, in_next}
use Rattle.prodash_tui.proofs.grid.fill_rows.Goals as goal

pub loop-k-preserved : goal.loop-k-preserved
loop-k-preserved c =
    let rows = c.args.rows.now.items in
    let first = c.args.first in
    let k = c.loop-k.k in
    let f = splice c.args.x (filling c.args.style (c.args.end - c.args.x) c.args.c) in
    let old = c.index_mut.result.now in
    let inside : k < length rows = omega arith in
    let value : old ≡ get_or c.loop-k.rows.items k old = search rules in
    let fits : c.args.end ≤ length old = search rules in
    let same : old ≡ get_or rows k old = value ∙ ap (λ (rs : List (List Cell)). get_or rs k old) c.loop-k.invariant.rows ∙ in_at first k f rows old c.loop-k.auto.k inside in
    let filled : c.fill.new.self ≡ f (get_or rows k old) = c.fill.ensures.cells ∙ ap f same in
    record {
      rows = ap (λ (r : List Cell). set c.loop-k.rows.items k r) filled
          ∙ ap (λ (rs : List (List Cell)). set rs k (f (get_or rows k old))) c.loop-k.invariant.rows
          ∙ in_next first k f rows old c.loop-k.auto.k inside;
      end = All-set (λ (r : List Cell). c.args.end ≤ length r) c.loop-k.rows.items k c.fill.new.self (let e : length c.fill.new.self ≡ length old = c.fill.ensures.width in omega arith) c.loop-k.invariant.end;
    }

pub returns : goal.returns
returns c =
    c.loop-k.invariant.rows
    ∙ ap (λ (n : ℕ). in_rows c.args.first n (splice c.args.x (filling c.args.style (c.args.end - c.args.x) c.args.c)) c.args.rows.now.items)
    (let e : c.loop-k.k - c.args.first ≡ c.args.last - c.args.first = omega arith in e)
