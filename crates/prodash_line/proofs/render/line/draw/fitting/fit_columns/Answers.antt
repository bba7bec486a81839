use Rattle.std.proofs.Common.{chars, arith, ◌-◌, ◌≡◌, sym, ap, ◌∙◌, false}
use Rattle.unicode_width.specs.Width.{str_width}
use Rattle.prodash_line.specs.declared.render.line.draw.room.Room.TheVariants.{Columns, Full}
use Rattle.prodash_line.proofs.Prefixes.{prefix_within}
use Rattle.prodash_line.proofs.Cutting.{whole_written, whole_after, prefix_written, prefix_after}
use Rattle.prodash_line.proofs.render.line.draw.fitting.fit_columns.Goals as goal

pub overflow_sub-result : goal.overflow_sub-result
overflow_sub-result c = omega (arith, c.requires, c.whole_width-whole.ensures, c.from.ensures)

pub returns-then-whole-from-clause-text : goal.returns-then-whole-from-clause-text
returns-then-whole-from-clause-text c =
    sym (whole_written c.args.left (chars c.args.text.now) (omega (arith, c.whole_width-whole.ensures, c.from.ensures)))

pub returns-then-whole-from-clause-room : goal.returns-then-whole-from-clause-room
returns-then-whole-from-clause-room c =
    let own : c.args.width ≡ str_width false (chars c.args.text.now) = omega (arith, c.requires, c.whole_width-whole.ensures, c.from.ensures) in
    ap (λ n. Columns (c.args.left - n)) own ∙ sym (whole_after c.args.left (chars c.args.text.now) (omega (arith, c.whole_width-whole.ensures, c.from.ensures)))

pub overflow_cast-result : goal.overflow_cast-result
overflow_cast-result c =
    omega (arith, c.longest_prefix-columns.ensures.width, ap (str_width false) c.longest_prefix-columns.ensures.text, prefix_within c.args.left (chars c.args.text.now))

pub overflow_sub-result-2 : goal.overflow_sub-result-2
overflow_sub-result-2 c =
    omega (arith, c.longest_prefix-columns.ensures.width, ap (str_width false) c.longest_prefix-columns.ensures.text, prefix_within c.args.left (chars c.args.text.now))

pub returns-clause-text : goal.returns-clause-text
returns-clause-text c =
    c.longest_prefix-columns.ensures.text ∙ sym (prefix_written c.args.left (chars c.args.text.now) (omega (arith, c.whole_width-whole.ensures, c.from.ensures)))

pub returns-clause-room : goal.returns-clause-room
returns-clause-room c =
    ap (λ n. Full (c.args.left - n)) (c.longest_prefix-columns.ensures.width ∙ ap (str_width false) c.longest_prefix-columns.ensures.text)
    ∙ sym (prefix_after c.args.left (chars c.args.text.now) (omega (arith, c.whole_width-whole.ensures, c.from.ensures)))
