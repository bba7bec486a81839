use Rattle.std.proofs.Common.{rules, ◌≡◌, None, [], ◌∷◌, ap, sym, subst}
use Rattle.prodash_line.specs.Lines.{spaces, styled}
use Rattle.prodash_line.specs.plumbing.Writing.{indented, AppendsIfRoom}
use Rattle.prodash_line.proofs.LineWriting.{appends_as}
use Rattle.prodash_line.proofs.PlainProgress.{appends_behind_spaces}
use Rattle.prodash_line.proofs.render.line.draw.line_writer.LineWriter.push_printable_behind.Goals as goal

pub returns-then-whole : goal.returns-then-whole
returns-then-whole c =
    let old = c.args.self.now in
    let new = c.push_whole_behind.new.self in
    let none : c.args.style ≡ None = search rules in
    let whole = subst (AppendsIfRoom old (indented c.args.indent c.args.text.now) new) c.if-whole.true c.in_ok-whole.ensures in
    appends_as (ap (λ style. spaces c.args.indent ∷ styled style c.args.text.now ∷ []) (sym none))
    (appends_behind_spaces old new c.args.indent c.args.text.now c.requires.printable whole)
