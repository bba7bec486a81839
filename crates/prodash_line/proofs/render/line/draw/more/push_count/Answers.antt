use Rattle.std.proofs.Common.{◌∷◌, [], ap, ◌∙◌}
use Rattle.prodash_line.specs.Lines.{piece}
use Rattle.prodash_line.specs.plumbing.Writing.{is_printable}
use Rattle.prodash_line.proofs.Columns.{printable-decimal}
use Rattle.prodash_line.proofs.LineWriting.{appends_as, begun_then, begun_to}
use Rattle.prodash_line.proofs.render.line.draw.more.push_count.Goals as goal

pub push_printable-requires-clause-printable : goal.push_printable-requires-clause-printable
push_printable-requires-clause-printable c = ap is_printable (c.as_bytes.ensures.value ∙ c.format.ensures.text) ∙ printable-decimal c.args.count

pub returns : goal.returns
returns c =
    begun_then
    (begun_then (begun_then (begun_to _ _ c.width_limit.ensures c.begin_line.ensures) (appends_as (ap (λ t. piece t ∷ []) c.before_count.ensures) c.in_ok-push_text.ensures))
    (appends_as (ap (λ t. piece t ∷ []) (c.as_bytes.ensures.value ∙ c.format.ensures.text)) c.in_ok-push_printable.ensures))
    c.in_ok-push_printable-2.ensures
