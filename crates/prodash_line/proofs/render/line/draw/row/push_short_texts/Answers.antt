use Rattle.std.proofs.Common.{rules, sym, subst, arith}
use Rattle.prodash_line.specs.plumbing.RowWriting.{OrNothing, PadsAsIs}
use Rattle.prodash_line.proofs.PaddedValues.{drawn_when, pads_as_is}
use Rattle.prodash_line.proofs.render.line.draw.row.push_short_texts.Goals as goal

pub returns : goal.returns
returns c =
    let a = c.args in
    let old = a.out.now in
    let new = c.push_whole_pair.new.self in
    let own = c.saturating_add-own.result in
    let draws = PadsAsIs a.colored a.midpoint a.values.now a.unit.now in
    subst (OrNothing old new draws) (sym c.then_some.ensures)
    (drawn_when c.in_ok-whole.whole own old new draws
    (λ is. pads_as_is old new a.colored a.midpoint own _ a.values.now a.unit.now (search rules) (search rules)
    (omega (arith, c.saturating_add-own.ensures, c.width.ensures)) c.saturating_sub-padding.ensures (c.in_ok-whole.ensures.whole is))
    c.in_ok-whole.ensures.nothing)
