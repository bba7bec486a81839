use Rattle.std.proofs.Common.{◌++◌, ap, sym, ◌∙◌, chars, replicate}
use Rattle.std.proofs.lemmas.Str.{chars-nil}
use Rattle.prodash_line.specs.plumbing.Writing.{indented}
use Rattle.prodash_line.specs.plumbing.Cutting.{written_in}
use Rattle.prodash_line.proofs.Cutting.{indented_spaces, indented_rest}
use Rattle.prodash_line.proofs.render.line.draw.fitting.fit_indented.Goals as goal

pub returns-then-left-padding-clause-text : goal.returns-then-left-padding-clause-text
returns-then-left-padding-clause-text c =
    rw c.in-Columns.is (indented_spaces c.in-Columns.left c.args.padding (chars c.args.text.now) _ chars-nil c.if-left-padding.true).0

pub returns-then-left-padding-clause-room : goal.returns-then-left-padding-clause-room
returns-then-left-padding-clause-room c =
    rw c.in-Columns.is (indented_spaces c.in-Columns.left c.args.padding (chars c.args.text.now) _ chars-nil c.if-left-padding.true).1

pub returns-else-left-padding-clause-text : goal.returns-else-left-padding-clause-text
returns-else-left-padding-clause-text c =
    rw c.in-Columns.is (ap (λ t. replicate c.args.padding 32 ++ t) c.fit_text-room.ensures.text ∙ (indented_rest c.in-Columns.left c.args.padding (chars c.args.text.now) c.if-left-padding.false).0)

pub returns-else-left-padding-clause-room : goal.returns-else-left-padding-clause-room
returns-else-left-padding-clause-room c =
    rw c.in-Columns.is (c.fit_text-room.ensures.room ∙ (indented_rest c.in-Columns.left c.args.padding (chars c.args.text.now) c.if-left-padding.false).1)

pub returns-in-Full-clause-text : goal.returns-in-Full-clause-text
returns-in-Full-clause-text c = chars-nil ∙ ap (λ r. written_in r (indented c.args.padding (chars c.args.text.now))) (sym c.in-Full.is)
