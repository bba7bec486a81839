use Rattle.std.proofs.Common.{◌∙◌, sym, arith, rules}
use Rattle.prodash_line.proofs.StyleCodes.{none_after_color, or_else}
use Rattle.prodash_line.proofs.render.line.page.codes.with_code.Goals as goal
use Rattle.prodash_line.proofs.render.line.page.codes.with_code.Goals.{then-is_some, else-is_some, in_default-via-in-1+else-not-has_bold, in_default-via-in-2+else-not-has_dim, in_default-via-in-43+else-not-style, in_default-via-in_default-1}

pub returns-in_default-2 : goal.returns-in_default-2
returns-in_default-2 c other rest = none_after_color c.args.style other c.args.code rest
    (elim c.if-is_some.branch [ then-is_some w ↦ search rules | else-is_some w ↦ or_else _ c.args.style.on_yellow (sym w.has_color-is ∙ c.if-not-has_color.false) ])
    (λ is. elim c.in_default.branch [ in_default-via-in-1+else-not-has_bold w ↦ absurd (omega arith) | in_default-via-in-2+else-not-has_dim w ↦ absurd (omega arith) | in_default-via-in-43+else-not-style w ↦ w.if-not-style.false | in_default-via-in_default-1 w ↦ absurd (omega arith) ])
