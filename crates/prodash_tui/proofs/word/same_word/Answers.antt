use Rattle.std.proofs.Common.{◌≡◌, sym, ◌∙◌}
use Rattle.prodash_base.specs.plumbing.EqualityTests.{sound}
use Rattle.prodash_tui.specs.plumbing.SameCells.{styles}
use Rattle.prodash_tui.proofs.word.same_word.Goals as goal

pub returns-in-Text-Text : goal.returns-in-Text-Text
returns-in-Text-Text c h =
    let same : c.in-Text-Text.style ≡ c.in-Text-Text.other = sound styles _ _ (sym c.same_style.ensures ∙ h) in
    cc

pub returns-in-Shortened-Shortened : goal.returns-in-Shortened-Shortened
returns-in-Shortened-Shortened c h =
    let same : c.in-Shortened-Shortened.style ≡ c.in-Shortened-Shortened.other = sound styles _ _ (sym c.same_style-in-Shortened-Shortened.ensures ∙ h) in
    cc

pub returns-then-c-d : goal.returns-then-c-d
returns-then-c-d c h =
    let same : c.in-Filling-Filling.style ≡ c.in-Filling-Filling.other = sound styles _ _ (sym c.same_style-then-c-d.ensures ∙ h) in
    cc
