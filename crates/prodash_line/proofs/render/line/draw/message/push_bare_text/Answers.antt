use Rattle.std.proofs.Common.{ℕ, List, ◌∷◌, [], chars, ap, ◌∙◌}
use Rattle.std.specs.Bool.{then_some}
use Rattle.prodash_line.specs.Lines.{styled}
use Rattle.prodash_line.specs.DrawnLines.{drawn_chars}
use Rattle.prodash_line.specs.TextStyles.{message_style}
use Rattle.prodash_line.proofs.LineWriting.{appends_as}
use Rattle.prodash_line.proofs.render.line.draw.message.push_bare_text.Goals as goal

pub returns : goal.returns
returns c =
    let o = c.args.options.now in
    let m = c.args.message.now in
    appends_as (ap (λ s. styled s (chars c.in_ok-text.text.text.now) ∷ []) (c.then_some-style.ensures ∙ ap (then_some o.colored) c.message_style.ensures)
    ∙ ap (λ (t : List ℕ). styled (then_some o.colored (message_style m.level)) t ∷ []) (c.in_ok-text.ensures.text ∙ ap (drawn_chars o.defensive) c.as_str.ensures)) c.in_ok-push_drawn.ensures
