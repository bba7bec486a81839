use Rattle.std.proofs.Common.{rules, ◌≡◌, ◌<◌, ◌++◌, List, [], length, set, get_or, sym, ap, ◌∙◌, append-nil}
use Rattle.std.proofs.lemmas.List.{get_or_read, set-get_or}
use Rattle.prodash_base.proofs.Prefixes.{IsPrefix-trans}
use Rattle.prodash_tui.specs.declared.cell.Cell.{Cell}
use Rattle.prodash_tui.specs.Signs.{spelling}
use Rattle.prodash_tui.proofs.SpelledSigns.{no_rows_over_blank, rows_more_over_blank}
use Rattle.prodash_tui.proofs.frame.push_rows_over_blank.Goals as goal

pub loop-y-preserved : goal.loop-y-preserved
loop-y-preserved c =
    let new = c.args.new.now in
    let y = c.loop-y.y in
    let row = c.as_slice.result.now in
    let at = c.index-new-y.result in
    let inside : y < length new = search rules in
    let kept : at ≡ get_or c.loop-y.new y at = c.index-new-y.is in
    let read : at ≡ get_or new y at = kept ∙ ap (λ (rows : List (List Cell)). get_or rows y at) c.loop-y.invariant.after in
    let is : get_or new y [] ≡ row = sym (get_or_read new y at inside read []) ∙ (kept ∙ (sym c.cells-row.ensures.value ∙ sym c.as_slice.ensures)) in
    record {
      ok = rows_more_over_blank y row new c.loop-y.out.items c.push_row_over_blank.new.out.items _ c.loop-y.cursor c.push_row_over_blank.new.cursor inside is
          c.in_ok-push_row_over_blank.ensures.ok c.in_ok-push_row_over_blank.ensures.cursor c.loop-y.invariant.ok;
      after = ap (λ (r : List Cell). set c.loop-y.new y r) c.cells-row.follows.holds-at-none ∙ set-get_or c.loop-y.new y at ∙ c.loop-y.invariant.after;
      kept = IsPrefix-trans _ _ _ c.loop-y.invariant.kept c.push_row_over_blank.ensures.kept;
    }

pub returns-clause-ok : goal.returns-clause-ok
returns-clause-ok c =
    let end = no_rows_over_blank c.loop-y.y c.args.new.now c.loop-y.cursor (search rules) in
    sym (append-nil c.loop-y.out.items)
    ∙ ap (λ signs. c.loop-y.out.items ++ spelling signs) (sym end)
    ∙ c.loop-y.invariant.ok
