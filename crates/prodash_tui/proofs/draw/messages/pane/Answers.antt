use Rattle.std.proofs.Common.{◌≡◌, ℕ, length, ◌∙◌, ap, subst}
use Rattle.std.specs.Prelude.{OnOk}
use Rattle.prodash_core.specs.declared.render.tui.event.Rect.{Rect}
use Rattle.prodash_tui.specs.Grids.{Sheet}
use Rattle.prodash_tui.specs.Offsets.{sanitize_offset}
use Rattle.prodash_tui.specs.MessagePanes.{messages_bound, skipped_messages, with_list}
use Rattle.prodash_tui.proofs.draw.messages.pane.Goals as goal

pub returns-clause-ok : goal.returns-clause-ok
unfolding lib.Utf8.encode
returns-clause-ok c =
    let messages = c.args.messages.now in
    let overflow = c.args.overflow in
    let area = messages_bound c.args.bound in
    let skipped : c.sanitize_offset.result ≡ skipped_messages c.args.offset.now c.args.bound messages =
    c.sanitize_offset.ensures ∙ ap (λ (r : Rect). sanitize_offset c.args.offset.now (length messages) r.height) c.messages_bound-area.ensures in
    let drawn = ap (λ (r : Rect). with_list r overflow c.sanitize_offset.result messages c.draw_head.new.grid) c.messages_bound-area.ensures
    ∙ ap (λ (n : ℕ). with_list area overflow n messages c.draw_head.new.grid) skipped
    ∙ ap (with_list area overflow (skipped_messages c.args.offset.now c.args.bound messages) messages) c.draw_head.ensures in
    subst (λ (g : Sheet). OnOk c.draw_list.result (c.draw_list.new.grid ≡ g)) drawn c.draw_list.ensures.ok
