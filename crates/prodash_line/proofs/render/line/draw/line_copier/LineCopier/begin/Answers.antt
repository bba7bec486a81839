use Rattle.std.proofs.Common.{ℕ, List, [], length, ap, subst, ◌∙◌}
use Rattle.prodash_line.specs.plumbing.LineCopying.{Writes}
use Rattle.prodash_line.proofs.LineCopying.{begins_over}
use Rattle.prodash_line.proofs.render.line.draw.line_copier.LineCopier.begin.Goals as goal

pub returns : goal.returns
returns c =
    let own = c.take_bytes-bytes.ensures ∙ c.take_lines-lines.ensures.bytes in
    begins_over _ c.go_on.new.self c.push.new.self c.args.kept.now c.args.are_alike c.args.out.now.bytes c.if-not-are_alike.false
    (c.over.ensures ∙ ap (λ lines. ([], lines.items)) c.take_lines-lines.ensures.lines)
    (c.over-2.ensures ∙ ap (λ (bytes : List ℕ). ([], bytes)) (c.into_vec.ensures ∙ own))
    (c.len.ensures ∙ ap length own)
    c.go_on.ensures (subst (λ (bytes : List ℕ). Writes c.go_on.new.self bytes c.push.new.self) c.bytes.ensures c.in_ok-push.ensures)
