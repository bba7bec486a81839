use Rattle.std.proofs.Common.{◌-◌, ℕ, List, ◌∷◌, [], ◌++◌, replicate, chars, ap, ◌∙◌}
use Rattle.std.specs.Bool.{then_some}
use Rattle.prodash_line.specs.Lines.{styled}
use Rattle.prodash_line.specs.TextStyles.{origin_style}
use Rattle.prodash_line.specs.MessageLines.{origin_width}
use Rattle.prodash_line.proofs.LineWriting.{appends_as, appends_then}
use Rattle.prodash_line.proofs.render.line.draw.message.push_origin_and_text.Goals as goal

pub returns : goal.returns
returns c =
    let o = c.args.options.now in
    let m = c.args.message.now in
    let padding = c.saturating_sub-padding.ensures ∙ ap (λ n. c.args.width - n) c.requires.width in
    let origin = appends_as (ap (λ s. styled s (replicate c.saturating_sub-padding.result 32 ++ chars c.args.origin.now.text.now) ∷ []) (c.then_some-style.ensures ∙ ap (then_some o.colored) c.origin_style.ensures)
    ∙ ap (λ n. styled (then_some o.colored origin_style) (replicate n 32 ++ chars c.args.origin.now.text.now) ∷ []) padding
    ∙ ap (λ (t : List ℕ). styled (then_some o.colored origin_style) (replicate (c.args.width - origin_width o.defensive m.origin) 32 ++ t) ∷ []) c.requires.drawn) c.in_ok-push_indented.ensures in
    appends_then origin (appends_then c.in_ok-push_spaces.ensures c.in_ok-push_bare_text.ensures)
