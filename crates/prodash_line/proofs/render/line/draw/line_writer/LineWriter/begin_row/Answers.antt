use Rattle.std.proofs.Common.{ℕ, List, [], subst}
use Rattle.prodash_line.specs.plumbing.Writing.{Writes}
use Rattle.prodash_line.proofs.render.line.draw.line_writer.LineWriter.begin_row.Goals as goal

pub returns : goal.returns
returns c = record { writes = subst (λ (bs : List ℕ). Writes c.args.limit bs [] c.begin_line.new.self) c.in_ok-start_row.ensures c.begin_line.ensures.writes }
