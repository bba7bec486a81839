use Rattle.std.proofs.Common.{rules, ◌≡◌, ◌<◌, ◌++◌, ◌-◌, length, take, drop, sym, ap, ◌∙◌, append-nil, arith}
use Rattle.std.proofs.lemmas.List.{length-drop, take_all}
use Rattle.prodash_base.proofs.Prefixes.{IsPrefix-trans}
use Rattle.prodash_tui.specs.Cells.{cell_at}
use Rattle.prodash_tui.specs.Frames.{row_cursor, row_signs}
use Rattle.prodash_tui.specs.Signs.{spelling}
use Rattle.prodash_tui.specs.plumbing.Appended.{blank_like}
use Rattle.prodash_tui.proofs.SpelledSigns.{blank_at, cursor_more, length-blank_like, none_over_blank, row_more}
use Rattle.prodash_tui.proofs.frame.push_row_over_blank.Goals as goal

pub loop-k-preserved : goal.loop-k-preserved
loop-k-preserved c =
    let row = c.args.y in
    let new = c.args.new.now in
    let old = blank_like new in
    let k = c.loop-k.k in
    let within : k < length new = search rules in
    let inside : k < length old = omega (arith, length-blank_like new) in
    let blank = c.blank_cell-blank.result in
    let a : cell_at old k ≡ blank = blank_at new k within ∙ sym c.blank_cell-blank.ensures in
    let cells = take (length new - k) (drop k new) in
    let rest : drop k new ≡ cells = sym (take_all (length new - k) (drop k new) (omega (arith, length-drop k new))) in
    record {
      ok = row_more row k blank cells old new c.loop-k.out.items c.push_changed.new.out.items _ c.loop-k.cursor c.push_changed.new.cursor inside within a rest
          c.in_ok-push_changed.ensures.ok c.in_ok-push_changed.ensures.cursor c.loop-k.invariant.ok;
      cursor = cursor_more row k blank cells old new _ c.loop-k.cursor c.push_changed.new.cursor inside within a rest c.in_ok-push_changed.ensures.cursor c.loop-k.invariant.cursor;
      kept = IsPrefix-trans _ _ _ c.loop-k.invariant.kept c.push_changed.ensures.kept;
    }

pub returns-clause-ok : goal.returns-clause-ok
returns-clause-ok c =
    let end = none_over_blank c.loop-k.k c.args.new.now (search rules) in
    sym (append-nil c.loop-k.out.items)
    ∙ ap (λ changes. c.loop-k.out.items ++ spelling (row_signs c.args.y changes c.loop-k.cursor)) (sym end)
    ∙ c.loop-k.invariant.ok

pub returns-clause-cursor : goal.returns-clause-cursor
returns-clause-cursor c =
    let end = none_over_blank c.loop-k.k c.args.new.now (search rules) in
    ap (λ changes. row_cursor c.args.y changes c.loop-k.cursor) (sym end) ∙ c.loop-k.invariant.cursor
