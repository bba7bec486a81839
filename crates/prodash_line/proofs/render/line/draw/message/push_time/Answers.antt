use Rattle.std.proofs.Common.{[], ◌∷◌, chars, ap, sym, ◌∙◌}
use Rattle.std.specs.Bool.{then_some}
use Rattle.prodash_line.specs.Lines.{styled, in_color}
use Rattle.prodash_line.specs.TextStyles.{time_style}
use Rattle.prodash_line.specs.MessageLines.{time_of}
use Rattle.prodash_line.proofs.LineWriting.{appends_as, appends_no_piece, appends_then}
use Rattle.prodash_line.proofs.render.line.draw.message.push_time.Goals as goal

pub returns-then-not-options-clause-pieces : goal.returns-then-not-options-clause-pieces
returns-then-not-options-clause-pieces c =
    appends_as (ap (λ shown. in_color c.args.options.now.colored (time_of shown c.args.message.now)) (sym c.if-not-options.true)) (appends_no_piece c.args.out.now)

pub returns-clause-pieces : goal.returns-clause-pieces
returns-clause-pieces c =
    let m = c.args.message.now in
    let colored = c.args.options.now.colored in
    appends_as (ap (λ shown. in_color colored (time_of shown m)) (sym c.if-not-options.false))
    (appends_then
    (appends_as (ap (λ style. styled style (chars c.as_str.result.now) ∷ []) (c.then_some-style.ensures ∙ ap (then_some colored) c.time_style.ensures)
    ∙ ap (λ t. styled (then_some colored (time_style m.level)) (chars t) ∷ []) (c.as_str.ensures.value ∙ c.in_ok-time.ensures.ok)) c.in_ok-push_text.ensures)
    c.in_ok-push_spaces.ensures)
