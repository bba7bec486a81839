use Rattle.std.proofs.Common.{ℕ, take, drop, ap, sym, ◌∙◌}
use Rattle.prodash_line.proofs.GapBuffers.{put}
use Rattle.prodash_line.proofs.render.line.gap_buffer.GapBuffer.extend_from_slice.Goals as goal

pub returns : goal.returns
returns g c =
    let w : ℕ = c.self.inside.written in
    let l : ℕ = c.in_ok-self-inside.field-0 in
    let made = c.in_ok-self-inside.ensures in
    let stored = c.put_items-self-inside.ensures in
    let ys = c.put_items-self-inside.new.items.items in
    ap (λ k. (take k ys, drop l ys)) stored.end
    ∙ put c.self.inside.items.items c.make_room.new.items.items ys c.args.items.now w l c.self.inside.left c.args.self.now made.wide made.written made.left
    (ap (λ k. take k ys) (sym stored.end) ∙ stored.put)
    (ap (λ k. drop k ys) (sym stored.end) ∙ stored.after ∙ ap (λ k. drop k c.make_room.new.items.items) stored.end) c.self.view_is
