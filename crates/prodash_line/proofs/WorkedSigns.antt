-- The spelling of signs, computed.
use Rattle.std.proofs.Common.{◌≡◌, true, false, [], ◌∷◌, Some, None, refl}
use Rattle.std.specs.Prelude.{codes}
use Rattle.std.specs.Fmt.{digits}
use Rattle.prodash_line.specs.declared.render.line.page.sign.Sign.TheVariants.{Up, EraseLine, HideCursor, ShowCursor, NoWrap, Wrap, BeginUpdate, EndUpdate, Open, Reset}
use Rattle.prodash_line.specs.declared.render.line.page.style.Color.TheVariants.{White, Cyan}
use Rattle.prodash_line.specs.declared.render.line.page.style.Style.{Style}
use Rattle.prodash_line.specs.Signs.{spelling, spelling_of, IsProper}

abbrev bold_cyan : Style
bold_cyan = record { bold = true; dim = false; color = Some Cyan; on_yellow = false }

abbrev dim_white_on_yellow : Style
dim_white_on_yellow = record { bold = false; dim = true; color = Some White; on_yellow = true }

abbrev plain : Style
plain = record { bold = false; dim = false; color = None; on_yellow = false }

-- codes in ascending order, with `;` between each two
pub open_bold_cyan : spelling_of (Open bold_cyan) ≡ 27 ∷ 91 ∷ codes "1;36m"
unfolding digits
open_bold_cyan = refl

pub open_dim_white_on_yellow : spelling_of (Open dim_white_on_yellow) ≡ 27 ∷ 91 ∷ codes "2;37;43m"
unfolding digits
open_dim_white_on_yellow = refl

-- the plain style has no code, so no proper sign begins it
pub open_plain : spelling_of (Open plain) ≡ 27 ∷ 91 ∷ codes "m"
open_plain = refl

pub plain_not_proper : IsProper (Open plain) → ⊥
plain_not_proper p = p refl

-- the end of all styles
pub reset : spelling_of Reset ≡ 27 ∷ 91 ∷ codes "0m"
reset = refl

-- the cursor
pub hide_cursor : spelling_of HideCursor ≡ 27 ∷ 91 ∷ codes "?25l"
hide_cursor = refl

pub show_cursor : spelling_of ShowCursor ≡ 27 ∷ 91 ∷ codes "?25h"
show_cursor = refl

-- without wrapping, and with it
pub no_wrap : spelling_of NoWrap ≡ 27 ∷ 91 ∷ codes "?7l"
no_wrap = refl

pub wrap : spelling_of Wrap ≡ 27 ∷ 91 ∷ codes "?7h"
wrap = refl

-- a synchronized update
pub begin_update : spelling_of BeginUpdate ≡ 27 ∷ 91 ∷ codes "?2026h"
begin_update = refl

pub end_update : spelling_of EndUpdate ≡ 27 ∷ 91 ∷ codes "?2026l"
end_update = refl

-- a row is erased, and the cursor goes up by ten
pub erased_above : spelling (EraseLine ∷ Up 10 ∷ []) ≡ 27 ∷ 91 ∷ 50 ∷ 75 ∷ 27 ∷ 91 ∷ codes "10A"
unfolding digits
erased_above = refl
