use Rattle.std.proofs.Common.{◌≡◌, ℕ, ◌+◌, ◌-◌, List, length, ap, ◌∙◌, subst, arith}
use Rattle.std.specs.Prelude.{OnOk}
use Rattle.prodash_base.specs.declared.messages.Message.{Message}
use Rattle.prodash_tui.specs.Grids.{Sheet}
use Rattle.prodash_tui.specs.MessagePanes.{origin_width, shown_messages, with_hidden, with_messages}
use Rattle.prodash_tui.proofs.draw.messages.draw_list.Goals as goal

pub returns-clause-ok : goal.returns-clause-ok
returns-clause-ok c =
    let area = c.args.area in
    let messages = c.args.messages.now in
    let g = c.args.grid.now in
    let shown = shown_messages c.args.skipped area.height messages in
    let hidden = length messages - (c.args.skipped + area.height) in
    let same : c.shown_messages-shown.result.now ≡ shown =
    c.shown_messages-shown.ensures
    ∙ ap (λ (n : ℕ). shown_messages n c.from-rows.result messages) c.from.ensures
    ∙ ap (λ (n : ℕ). shown_messages c.args.skipped n messages) c.from-rows.ensures in
    let drawn : c.draw_messages.new.grid ≡ with_messages area (origin_width shown) shown g =
    c.in_ok-draw_messages.ensures.ok
    ∙ ap (λ (n : ℕ). with_messages area n c.shown_messages-shown.result.now g) (c.origin_width.ensures ∙ ap origin_width same)
    ∙ ap (λ (ms : List Message). with_messages area (origin_width shown) ms g) same in
    let more : c.saturating_sub-more.result ≡ hidden = omega arith in
    let all = ap (λ (n : ℕ). with_hidden c.args.overflow c.args.skipped n c.draw_messages.new.grid) more ∙ ap (with_hidden c.args.overflow c.args.skipped hidden) drawn in
    subst (λ (h : Sheet). OnOk c.draw_hidden.result (c.draw_hidden.new.grid ≡ h)) all c.draw_hidden.ensures.ok
