use Rattle.std.proofs.Common.{sym, subst, ◌∙◌}
use Rattle.prodash_tui.specs.declared.cell.Cell.TheVariants.{Holds}
use Rattle.prodash_tui.specs.plumbing.PackedCells.{HasRoom}
use Rattle.prodash_tui.proofs.PackedCells.{half_by_code, held_by_code}
use Rattle.prodash_tui.proofs.packed.PackedCell.get.Goals as goal

pub char_of_digit-requires : goal.char_of_digit-requires
char_of_digit-requires c = (subst HasRoom (held_by_code c.self.inside.code c.if-own-eq0.false) c.self.invariant.room).0

pub unpacked_chars-requires : goal.unpacked_chars-requires
unpacked_chars-requires c = (subst HasRoom (held_by_code c.self.inside.code c.if-own-eq0.false) c.self.invariant.room).2

pub returns-then-own-eq0 : goal.returns-then-own-eq0
returns-then-own-eq0 c = sym (half_by_code c.self.inside.code c.if-own-eq0.true) ∙ c.self.view_is

pub returns : goal.returns
returns c =
    (λ i. Holds (c.char_of_digit.ensures i) (c.unpacked_chars.ensures i) (c.style_of_digit-style.ensures i))
    ∙ sym (held_by_code c.self.inside.code c.if-own-eq0.false)
    ∙ c.self.view_is
