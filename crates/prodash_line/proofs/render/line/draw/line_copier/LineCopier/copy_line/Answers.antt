use Rattle.std.proofs.Common.{◌≡◌, ℕ, ◌-◌, ◌++◌, List, ap, subst, ◌∙◌}
use Rattle.std.specs.Prelude.{OnOk}
use Rattle.prodash_line.specs.plumbing.LineCopying.{Writes}
use Rattle.prodash_line.specs.plumbing.OverwriteBytes.{row_end}
use Rattle.prodash_line.proofs.LineCopying.{skip_written}
use Rattle.prodash_line.proofs.render.line.draw.line_copier.LineCopier.copy_line.Goals as goal

pub returns : goal.returns
returns c =
    let copier = c.args.self.now in
    let n : ℕ = c.args.size.length in
    let end : List ℕ = row_end (c.args.old_width - c.args.size.width) in
    let ended : c.bytes.result.now ≡ end =
    c.bytes.ensures ∙ c.in_ok-push_row_end.ensures ∙ ap (λ (t : List ℕ). t ++ row_end c.saturating_sub.result) c.clear_bytes.ensures ∙ ap row_end c.saturating_sub.ensures in
    skip_written copier c.go_on.new.self c.push.new.self c.push.result n end (c.write_left.new.self) (c.give_up.new.self) c.requires.bytes c.write_left.ensures c.give_up.ensures c.go_on.ensures
    (subst (λ (t : List ℕ). OnOk c.push.result (Writes c.go_on.new.self t c.push.new.self)) ended c.push.ensures)
