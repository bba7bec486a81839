-- The bytes of signs, computed.
use Rattle.std.proofs.Common.{◌≡◌, ◌∷◌, ◌++◌, refl}
use Rattle.std.specs.Prelude.{Some, true, codes}
use Rattle.std.specs.Fmt.{digits}
use Rattle.prodash_tui.specs.declared.sign.Sign.TheVariants.{EraseScreen, MoveTo, SetStyle}
use Rattle.prodash_tui.specs.declared.style.Color.TheVariants.{Black, LightRed}
use Rattle.prodash_tui.specs.Cells.{plain}
use Rattle.prodash_tui.specs.Signs.{spelling, spelling_of}
use Rattle.prodash_tui.specs.Screens.{enter, leave}

-- the first cell is in row 1 and column 1
pub to_first : spelling_of (MoveTo 0 0) ≡ 27 ∷ codes "[1;1H"
unfolding digits
to_first = refl

pub to_other : spelling_of (MoveTo 9 41) ≡ 27 ∷ codes "[10;42H"
unfolding digits
to_other = refl

-- no style, and black on light red in bold
pub no_style : spelling_of (SetStyle plain) ≡ 27 ∷ codes "[0m"
no_style = refl

pub all_styles : spelling_of (SetStyle (record { bold = true; foreground = Some Black; background = Some LightRed })) ≡ 27 ∷ codes "[0;1;30;101m"
unfolding digits
all_styles = refl

pub erased : spelling_of EraseScreen ≡ 27 ∷ codes "[2J"
erased = refl

-- what comes before the first frame and after the last one
pub entered : spelling enter ≡ 27 ∷ codes "[?1049h" ++ (27 ∷ codes "[?25l" ++ 27 ∷ codes "[?7l")
entered = refl

pub left : spelling leave ≡ 27 ∷ codes "[0m" ++ (27 ∷ codes "[2J" ++ (27 ∷ codes "[?1049l" ++ (27 ∷ codes "[?7h" ++ 27 ∷ codes "[?25h")))
left = refl
