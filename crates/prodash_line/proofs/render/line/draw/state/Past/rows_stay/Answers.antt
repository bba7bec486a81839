use Rattle.std.proofs.Common.{ap, sym, ◌∙◌}
use Rattle.prodash_line.specs.Renderer.{Renderer}
use Rattle.prodash_line.proofs.KeptLines.{sees_same}
use Rattle.prodash_line.proofs.render.line.draw.state.Past.rows_stay.Goals as goal

pub returns-then-show : goal.returns-then-show
returns-then-show c = λ terminal before printed rows is.
    sees_same (record c.args.self.now { last_rows = before }) c.args.show printed rows (sym c.in-Leave.is ∙ is) c.if-show.true
    (ap (λ (r : Renderer). r.options.output_is_terminal) (sym c.self.view_is) ∙ terminal)
