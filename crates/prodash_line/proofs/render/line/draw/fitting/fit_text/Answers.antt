use Rattle.std.proofs.Common.{◌-◌, ◌≡◌, ap, sym, ◌∙◌, chars, arith, false}
use Rattle.std.proofs.lemmas.Str.{chars-nil}
use Rattle.unicode_width.specs.Width.{str_width}
use Rattle.prodash_line.specs.declared.render.line.draw.room.Room.TheVariants.{Columns}
use Rattle.prodash_line.specs.plumbing.Cutting.{written_in}
use Rattle.prodash_line.proofs.Cutting.{whole_written, whole_after}
use Rattle.prodash_line.proofs.render.line.draw.fitting.fit_text.Goals as goal

pub returns-then-width-left-clause-text : goal.returns-then-width-left-clause-text
returns-then-width-left-clause-text c =
    rw c.in-Columns.is (sym (whole_written c.in-Columns.left (chars c.args.text.now) (omega (arith, c.requires))))

pub returns-then-width-left-clause-room : goal.returns-then-width-left-clause-room
returns-then-width-left-clause-room c =
    let own : c.args.width ≡ str_width false (chars c.args.text.now) = omega (arith, c.requires) in
    rw c.in-Columns.is (ap (λ n. Columns (c.in-Columns.left - n)) own ∙ sym (whole_after c.in-Columns.left (chars c.args.text.now) (omega arith)))

pub returns-in-Full-clause-text : goal.returns-in-Full-clause-text
returns-in-Full-clause-text c = chars-nil ∙ ap (λ r. written_in r (chars c.args.text.now)) (sym c.in-Full.is)
