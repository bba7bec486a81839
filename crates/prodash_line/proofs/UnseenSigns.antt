-- Signs that a page doesn't show: styles, and those that hide or show the cursor, or begin or end an update.
use Rattle.std.proofs.Common.{◌≡◌, ℕ, refl}
use Rattle.std.specs.Prelude.{⊤}
use Rattle.prodash_line.specs.declared.render.line.page.sign.Sign.{Sign}
use Rattle.prodash_line.specs.declared.render.line.page.sign.Sign.TheVariants.{HideCursor, ShowCursor, BeginUpdate, EndUpdate, Open, Reset}
use Rattle.prodash_line.specs.Signs.{IsProper}
use Rattle.prodash_line.specs.Page.{Canvas, after_sign}
use Rattle.prodash_line.specs.Terminals.{Terminal, terminal_after_sign}

-- a proper sign that changes no cell and doesn't move the cursor
abbrev pub IsUnseen : Sign → Type 0
IsUnseen HideCursor = ⊤
IsUnseen ShowCursor = ⊤
IsUnseen BeginUpdate = ⊤
IsUnseen EndUpdate = ⊤
IsUnseen (Open style) = IsProper (Open style)
IsUnseen Reset = ⊤
IsUnseen _ = ⊥

-- it leaves a page as it was
pub after_unseen : (s : Sign) (p : Canvas) → IsUnseen s → after_sign s p ≡ p
after_unseen HideCursor p h = refl
after_unseen ShowCursor p h = refl
after_unseen BeginUpdate p h = refl
after_unseen EndUpdate p h = refl
after_unseen (Open style) p h = refl
after_unseen Reset p h = refl
after_unseen _ p h = absurd h

-- however many columns a terminal gives characters
pub unseen_on_terminal : (columns : ℕ → ℕ) (s : Sign) (t : Terminal) → IsUnseen s → terminal_after_sign columns s t ≡ t
unseen_on_terminal columns HideCursor t h = refl
unseen_on_terminal columns ShowCursor t h = refl
unseen_on_terminal columns BeginUpdate t h = refl
unseen_on_terminal columns EndUpdate t h = refl
unseen_on_terminal columns (Open style) t h = refl
unseen_on_terminal columns Reset t h = refl
unseen_on_terminal columns _ t h = absurd h

pub unseen_proper : (s : Sign) → IsUnseen s → IsProper s
unseen_proper HideCursor h = tt
unseen_proper ShowCursor h = tt
unseen_proper BeginUpdate h = tt
unseen_proper EndUpdate h = tt
unseen_proper (Open style) h = h
unseen_proper Reset h = tt
unseen_proper _ h = absurd h
