use Rattle.std.proofs.Common.{◌≡◌, ◌++◌, List, ℕ, sym, subst, ◌∙◌}
use Rattle.std.specs.Prelude.{OnOk}
use Rattle.prodash_line.proofs.StyledBars.{bar_in_color}
use Rattle.prodash_line.proofs.render.line.draw.line_writer.LineWriter.push_bar.Goals as goal

pub returns-in-Some-clause-bytes : goal.returns-in-Some-clause-bytes
returns-in-Some-clause-bytes c =
    subst (λ (it : List ℕ). OnOk c.push_colored_bar.result (c.push_colored_bar.new.self ≡ c.args.self.now.bytes ++ it))
    (bar_in_color c.args.style c.args.cells c.args.filled c.last_digit.result c.in-Some.color (sym c.color_alone.ensures ∙ c.in-Some.is) c.last_digit.ensures) c.push_colored_bar.ensures
