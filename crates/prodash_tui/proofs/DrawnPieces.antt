-- Drawing words at equal arguments.
use Rattle.std.proofs.Common.{◌≡◌, ℕ, List, ap, ◌∙◌}
use Rattle.prodash_core.specs.declared.render.tui.event.Rect.{Rect}
use Rattle.prodash_tui.specs.declared.style.Style.{Style}
use Rattle.prodash_tui.specs.Grids.{Sheet, with_filling, with_shortened}

pub shortened_as : {a b : Rect} {s t : Style} {text other : List ℕ} {g h : Sheet} → a ≡ b → s ≡ t → text ≡ other → g ≡ h → with_shortened a s text g ≡ with_shortened b t other h
shortened_as {a} {b} {s} {t} {text} {other} {g} {h} e f i j =
    ap (λ (r : Rect). with_shortened r s text g) e
    ∙ ap (λ (k : Style). with_shortened b k text g) f
    ∙ ap (λ (l : List ℕ). with_shortened b t l g) i
    ∙ ap (with_shortened b t other) j

pub filling_as : {a b : Rect} {s t : Style} (c : ℕ) {g h : Sheet} → a ≡ b → s ≡ t → g ≡ h → with_filling a s c g ≡ with_filling b t c h
filling_as {a} {b} {s} {t} c {g} {h} e f j =
    ap (λ (r : Rect). with_filling r s c g) e ∙ ap (λ (k : Style). with_filling b k c g) f ∙ ap (with_filling b t c) j
