use Rattle.std.proofs.Common.{rules, ◌≡◌, ◌≤◌, ℕ, ◌+◌, length, take, drop, vec_len, ap, ◌∙◌, arith}
use Rattle.prodash_line.proofs.GapBuffers.{moved, stays}
use Rattle.prodash_line.proofs.render.line.gap_buffer.GapBuffer.write_left.Goals as goal

pub returns-then-self : goal.returns-then-self
returns-then-self g c =
    stays c.self.inside.items.items c.self.inside.written c.self.inside.left c.args.count c.args.self.now c.if-self.true c.self.view_is

pub returns : goal.returns
returns g c =
    let w : ℕ = c.self.inside.written in
    let l : ℕ = c.self.inside.left in
    let n : ℕ = c.args.count in
    let len : vec_len c.self.inside.items ≡ length c.self.inside.items.items = search rules in
    let fits = c.self.invariant.1 in
    let within : l ≤ length c.self.inside.items.items = omega (arith, len, fits) in
    ap (λ ys. (take (w + n) ys, drop (l + n) ys)) c.copy_within.ensures.items
    ∙ moved c.self.inside.items.items w l n c.args.self.now c.self.invariant.0 within c.requires c.self.view_is
