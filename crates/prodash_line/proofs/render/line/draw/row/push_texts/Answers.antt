use Rattle.std.proofs.Common.{List, ℕ, subst}
use Rattle.std.specs.Prelude.{string_bytes}
use Rattle.prodash_line.specs.plumbing.RowWriting.{OrNothing, PadsAsIs}
use Rattle.prodash_line.proofs.render.line.draw.row.push_texts.Goals as goal

pub returns-in-Some : goal.returns-in-Some
returns-in-Some c =
    let d = c.args.drawn.now in
    let o = d.options.now in
    let old = c.args.out.now in
    let new = c.push_short_texts.new.out in
    let values = c.as_bytes-values.result.now in
    let unit = c.as_bytes-unit.result.now in
    let own = c.in-Some.own in
    let drawn : PadsAsIs o.colored d.midpoint values unit own old new = subst (OrNothing old new (PadsAsIs o.colored d.midpoint values unit)) c.in-Some.is c.in_ok-whole.ensures in
    subst (λ (t : List ℕ). PadsAsIs o.colored d.midpoint (string_bytes c.args.texts.now.values) t own old new) c.as_bytes-unit.ensures.value
    (subst (λ (t : List ℕ). PadsAsIs o.colored d.midpoint t unit own old new) c.as_bytes-values.ensures.value drawn)
    o.defensive
