use Rattle.std.proofs.Common.{[], ◌∷◌, ap, sym, replicate}
use Rattle.std.proofs.lemmas.List.{replicate-append-replicate}
use Rattle.prodash_line.specs.Lines.{piece}
use Rattle.prodash_line.proofs.Columns.{printable-spaces}
use Rattle.prodash_line.proofs.JoinedTexts.{appends_apart}
use Rattle.prodash_line.proofs.LineWriting.{appends_as}
use Rattle.prodash_line.proofs.render.line.draw.line_writer.LineWriter.push_gap.Goals as goal

pub returns : goal.returns
returns c =
    let n = c.args.padding in
    appends_apart (replicate 1 32) (replicate n 32 ∷ []) (printable-spaces 1) (printable-spaces n, tt)
    (appends_as (ap (λ t. piece t ∷ []) (sym (replicate-append-replicate 1 n 32))) c.in_ok-push_copies.ensures)
