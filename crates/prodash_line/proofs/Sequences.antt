-- Control sequences: what their parameters and final bytes say.
use Rattle.std.proofs.Common.{◌≡◌, ℕ, ◌^◌, ◌<◌, Bool, true, false, eqb, List, [], ◌∷◌, get_or, drop, sym, ap, ◌∙◌, inl, inr, arith}
use Rattle.std.specs.Prelude.{◌⊎◌}
use Rattle.std.specs.Char.{encode_utf8, is_control}
use Rattle.std.specs.Fmt.{decimal}
use lib.Pointwise.{pointwise}
use Rattle.std.proofs.lemmas.Bool.{both_ways}
use Rattle.std.proofs.lemmas.List.{same_from_push, append-nil}
use Rattle.std.proofs.lemmas.Str.{char_from_byte}
use Rattle.prodash_line.specs.declared.render.line.page.sign.Sign.TheVariants.{Char, LineFeed, CarriageReturn, Up, EraseLine, EraseBelow, HideCursor, ShowCursor, NoWrap, Wrap, BeginUpdate, EndUpdate, Open, Reset}
use Rattle.prodash_line.specs.Styles.{style_parameters}
use Rattle.prodash_line.specs.Signs.{sequence}
use Rattle.prodash_line.specs.plumbing.SignReading.{MakesNone, NoStyle}

-- a sequence has one list of parameters and one final byte
same_sequence : (p q : List ℕ) (a b : ℕ) → sequence p a ≡ sequence q b → (p ≡ q) × (a ≡ b)
same_sequence p q a b e = same_from_push p q a b (ap (λ (t : List ℕ). drop 2 t) e)

-- what a failed comparison says
pub differs : (b : Bool) (parameters other text : List ℕ) → b ≡ false → b ≡ pointwise eqb parameters other → other ≡ text → pointwise eqb text text ≡ true → parameters ≡ text → ⊥
differs b parameters other text failed e is same f = both_ways b failed (e ∙ ap (λ (t : List ℕ). pointwise eqb t other) f ∙ ap (pointwise eqb text) is ∙ same)

-- no sign that sets or resets a mode has these parameters
pub record NoMode (parameters : List ℕ) : Type 0 where
  pub cursor : parameters ≡ 63 ∷ 50 ∷ 53 ∷ [] → ⊥
  pub wrap : parameters ≡ 63 ∷ 55 ∷ [] → ⊥
  pub update : parameters ≡ 63 ∷ 50 ∷ 48 ∷ 50 ∷ 54 ∷ [] → ⊥

-- no kind of sequence has these parameters and this final byte
pub record Refuses (parameters : List ℕ) (final_byte : ℕ) : Type 0 where
  pub up : final_byte ≡ 65 → (n : ℕ) → 0 < n → n < 2 ^ 16 → decimal n ≡ parameters → ⊥
  pub erase : final_byte ≡ 75 → parameters ≡ 50 ∷ [] → ⊥
  pub erase_below : final_byte ≡ 74 → parameters ≡ [] → ⊥
  pub mode : (final_byte ≡ 108) ⊎ (final_byte ≡ 104) → NoMode parameters
  pub open_style : final_byte ≡ 109 → NoStyle parameters
  pub reset : final_byte ≡ 109 → parameters ≡ 48 ∷ [] → ⊥

-- if no kind has them, no proper sign's sequence does
pub makes_none : (parameters : List ℕ) (final_byte : ℕ) → Refuses parameters final_byte → MakesNone parameters final_byte
makes_none parameters final_byte h (Char c) p e =
    let same : c ≡ 27 = char_from_byte (sequence parameters final_byte) [] c (sym e ∙ sym (append-nil (encode_utf8 c))) (omega arith) (omega arith) in
    both_ways (is_control c) p.1 (ap is_control same)
makes_none parameters final_byte h LineFeed p e = omega (arith, ap (λ (t : List ℕ). get_or t 0 0) e)
makes_none parameters final_byte h CarriageReturn p e = omega (arith, ap (λ (t : List ℕ). get_or t 0 0) e)
makes_none parameters final_byte h (Up n) p e = let s = same_sequence (decimal n) parameters 65 final_byte e in h.up (sym s.1) n p.0 p.1 s.0
makes_none parameters final_byte h EraseLine p e = let s = same_sequence (50 ∷ []) parameters 75 final_byte e in h.erase (sym s.1) (sym s.0)
makes_none parameters final_byte h EraseBelow p e = let s = same_sequence [] parameters 74 final_byte e in h.erase_below (sym s.1) (sym s.0)
makes_none parameters final_byte h HideCursor p e = let s = same_sequence (63 ∷ 50 ∷ 53 ∷ []) parameters 108 final_byte e in (h.mode (inl (sym s.1))).cursor (sym s.0)
makes_none parameters final_byte h ShowCursor p e = let s = same_sequence (63 ∷ 50 ∷ 53 ∷ []) parameters 104 final_byte e in (h.mode (inr (sym s.1))).cursor (sym s.0)
makes_none parameters final_byte h NoWrap p e = let s = same_sequence (63 ∷ 55 ∷ []) parameters 108 final_byte e in (h.mode (inl (sym s.1))).wrap (sym s.0)
makes_none parameters final_byte h Wrap p e = let s = same_sequence (63 ∷ 55 ∷ []) parameters 104 final_byte e in (h.mode (inr (sym s.1))).wrap (sym s.0)
makes_none parameters final_byte h BeginUpdate p e = let s = same_sequence (63 ∷ 50 ∷ 48 ∷ 50 ∷ 54 ∷ []) parameters 104 final_byte e in (h.mode (inr (sym s.1))).update (sym s.0)
makes_none parameters final_byte h EndUpdate p e = let s = same_sequence (63 ∷ 50 ∷ 48 ∷ 50 ∷ 54 ∷ []) parameters 108 final_byte e in (h.mode (inl (sym s.1))).update (sym s.0)
makes_none parameters final_byte h (Open style) p e = let s = same_sequence (style_parameters style) parameters 109 final_byte e in h.open_style (sym s.1) style p s.0
makes_none parameters final_byte h Reset p e = let s = same_sequence (48 ∷ []) parameters 109 final_byte e in h.reset (sym s.1) (sym s.0)
