use Rattle.std.proofs.Common.{Bool, cond, ◌∷◌, ◌++◌, ap, sym}
use Rattle.prodash_line.specs.Lines.{spaces, in_color}
use Rattle.prodash_line.specs.MessageLines.{time_of, bare_text_of, text_of}
use Rattle.prodash_line.proofs.Coloring.{in_color-append}
use Rattle.prodash_line.proofs.LineWriting.{appends_as, appends_then, begun_as, begun_then, begun_to}
use Rattle.prodash_line.proofs.render.line.draw.message.push_message.Goals as goal

pub returns-then-is_bare-clause-line : goal.returns-then-is_bare-clause-line
returns-then-is_bare-clause-line c =
    let o = c.args.options.now in
    let time = time_of o.timestamp c.args.message.now in
    let bare_text = bare_text_of o.defensive c.args.message.now in
    let text = text_of o.defensive c.args.width c.args.message.now in
    begun_as (ap (λ (bare : Bool). in_color o.colored (cond bare (time ++ bare_text) (spaces 1 ∷ time ++ text))) c.if-is_bare.ensures)
    (begun_then (begun_to _ _ c.message_limit.ensures c.begin_line.ensures)
    (appends_as (sym (in_color-append o.colored time bare_text))
    (appends_then c.in_ok-push_time.ensures.pieces c.in_ok-push_bare_text.ensures)))

pub returns-clause-line : goal.returns-clause-line
returns-clause-line c =
    let o = c.args.options.now in
    let time = time_of o.timestamp c.args.message.now in
    let bare_text = bare_text_of o.defensive c.args.message.now in
    let text = text_of o.defensive c.args.width c.args.message.now in
    begun_as (ap (λ (bare : Bool). in_color o.colored (cond bare (time ++ bare_text) (spaces 1 ∷ time ++ text))) c.if-is_bare.ensures)
    (begun_then (begun_then (begun_to _ _ c.message_limit.ensures c.begin_line.ensures) c.in_ok-push_spaces.ensures)
    (appends_as (sym (in_color-append o.colored time text))
    (appends_then c.in_ok-push_time-2.ensures.pieces c.in_ok-push_origin_and_text.ensures)))
