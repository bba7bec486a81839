use Rattle.std.proofs.Common.{◌≡◌, ◌<◌, ℕ, length, drop, length-drop, ap, arith}
use Rattle.prodash_line.proofs.GapBuffers.{replaced}
use Rattle.prodash_line.proofs.render.line.gap_buffer.GapBuffer.replace_first.Goals as goal

pub returns : goal.returns
returns g c =
    let xs = c.self.inside.items.items in
    let l : ℕ = c.self.inside.left in
    let some = c.requires in
    let rest = length-drop l xs in
    let long : length (drop l xs) ≡ length c.args.self.now.1 = ap length (ap (λ v. v.1) c.self.view_is) in
    let within : l < length xs = omega (arith, long, rest, some) in
    replaced xs c.self.inside.written l c.args.item c.args.self.now c.self.invariant.0 within c.self.view_is
