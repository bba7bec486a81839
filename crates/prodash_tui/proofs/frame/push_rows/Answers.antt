use Rattle.std.proofs.Common.{rules, ◌++◌, sym, ap, ◌∙◌, append-nil}
use Rattle.prodash_tui.specs.Signs.{spelling}
use Rattle.prodash_tui.proofs.SpelledSigns.{no_rows_left}
use Rattle.prodash_tui.proofs.frame.push_rows.Goals as goal

pub returns-clause-ok : goal.returns-clause-ok
returns-clause-ok c =
    let end = no_rows_left c.loop-y.y c.args.old.now c.args.new.now c.loop-y.cursor (search rules) in
    sym (append-nil c.loop-y.out.items)
    ∙ ap (λ signs. c.loop-y.out.items ++ spelling signs) (sym end)
    ∙ c.loop-y.invariant.ok
