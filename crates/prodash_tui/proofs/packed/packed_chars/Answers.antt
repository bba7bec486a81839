use Rattle.std.proofs.Common.{◌+◌, ◌*◌, ◌∙◌}
use Rattle.prodash_tui.proofs.PackedCells.{four_digits, four_scalars}
use Rattle.prodash_tui.proofs.packed.packed_chars.Goals as goal

pub returns-clause-value : goal.returns-clause-value
returns-clause-value c =
    (λ i. c.digit_at-3.ensures.value i + 0x20_0000 * (c.digit_at-4.ensures.value i + 0x20_0000 * (c.digit_at.ensures.value i + 0x20_0000 * c.digit_at-2.ensures.value i)))
    ∙ four_digits c.args.chars.now c.requires

pub returns-clause-scalars : goal.returns-clause-scalars
returns-clause-scalars c =
    four_scalars c.args.chars.now c.requires c.digit_at-3.ensures.scalar c.digit_at-4.ensures.scalar c.digit_at.ensures.scalar c.digit_at-2.ensures.scalar
