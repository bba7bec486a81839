use Rattle.std.proofs.Common.{rules, ◌≡◌, ◌<◌, ◌++◌, ◌-◌, length, take, drop, sym, ap, ◌∙◌, append-nil, arith}
use Rattle.std.proofs.lemmas.List.{get_or_read, length-drop, take_all}
use Rattle.prodash_base.proofs.Prefixes.{IsPrefix-trans}
use Rattle.prodash_tui.specs.Cells.{blank_cell, cell_at}
use Rattle.prodash_tui.specs.Frames.{row_cursor, row_signs}
use Rattle.prodash_tui.specs.Signs.{spelling}
use Rattle.prodash_tui.proofs.SpelledSigns.{cursor_more, none_left, row_more}
use Rattle.prodash_tui.proofs.frame.push_row.Goals as goal

pub loop-k-preserved : goal.loop-k-preserved
loop-k-preserved c =
    let row = c.args.y in
    let old = c.args.old.now in
    let new = c.args.new.now in
    let k = c.loop-k.k in
    let inside : k < length old = search rules in
    let within : k < length new = search rules in
    let old_cell = c.index-old-k.result in
    let a : cell_at old k ≡ old_cell = sym (get_or_read old k old_cell inside (search rules) blank_cell) in
    let cells = take (length new - k) (drop k new) in
    let rest : drop k new ≡ cells = sym (take_all (length new - k) (drop k new) (omega (arith, length-drop k new))) in
    let pushed = c.in_ok-push_changed.ensures in
    let same = sym c.next_change_outside-k-in-loop-k.ensures.same in
    record {
      ok = ap (λ changes. c.push_changed.new.out.items ++ spelling (row_signs row changes c.push_changed.new.cursor)) same
          ∙ row_more row k old_cell cells old new c.loop-k.out.items c.push_changed.new.out.items _ c.loop-k.cursor c.push_changed.new.cursor inside within a rest pushed.ok pushed.cursor c.loop-k.invariant.ok;
      cursor = ap (λ changes. row_cursor row changes c.push_changed.new.cursor) same
          ∙ cursor_more row k old_cell cells old new _ c.loop-k.cursor c.push_changed.new.cursor inside within a rest pushed.cursor c.loop-k.invariant.cursor;
      kept = IsPrefix-trans _ _ _ c.loop-k.invariant.kept c.push_changed.ensures.kept;
      within = c.next_change_outside-k-in-loop-k.ensures.within;
    }

pub returns-clause-ok : goal.returns-clause-ok
returns-clause-ok c =
    let end = none_left c.loop-k.k c.args.old.now c.args.new.now (search rules) in
    sym (append-nil c.loop-k.out.items)
    ∙ ap (λ changes. c.loop-k.out.items ++ spelling (row_signs c.args.y changes c.loop-k.cursor)) (sym end)
    ∙ c.loop-k.invariant.ok

pub returns-clause-cursor : goal.returns-clause-cursor
returns-clause-cursor c =
    let end = none_left c.loop-k.k c.args.old.now c.args.new.now (search rules) in
    ap (λ changes. row_cursor c.args.y changes c.loop-k.cursor) (sym end) ∙ c.loop-k.invariant.cursor
