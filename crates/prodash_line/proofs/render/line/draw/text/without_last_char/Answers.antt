use Rattle.std.proofs.Common.{◌≡◌, ℕ, List, ◌-◌, ◌∷◌, [], ◌++◌, length, take, chars, refl, sym, ap, ◌∙◌, false, unwrap_or}
use Rattle.std.specs.Prelude.{Option, Some, None}
use Rattle.std.specs.Char.{encode_utf8}
use Rattle.std.specs.Str.{IsUtf8}
use Rattle.std.specs.Str.Iter.{chars_rest, chars_steps_back}
use Rattle.std.specs.declared.str.Chars.{Chars}
use Rattle.unicode_width.specs.Width.{str_width}
use Rattle.prodash_line.proofs.Prefixes.{chars-last, without_last, none_left}
use Rattle.prodash_line.proofs.render.line.draw.text.without_last_char.Goals as goal

none : (old new : Chars) (r : Option ℕ) (text : List ℕ) → chars_rest old ≡ text → r ≡ None → chars_steps_back old r new
    → chars text ≡ take (length (chars text) - 1) (chars text)
none old new None text e is h = none_left text text (ap length (sym e) ∙ h.0) refl
none old new (Some c) text e is h = cc

whole : (old new : Chars) (r : Option ℕ) (text rest : List ℕ) (c : ℕ) → chars_rest old ≡ text → r ≡ Some c → rest ≡ chars_rest new → IsUtf8 text → IsUtf8 rest → chars_steps_back old r new
    → chars text ≡ chars rest ++ c ∷ []
whole old new None text rest c e is s u v h = cc
whole old new (Some d) text rest c e is s u v h =
    chars-last text rest d u v (sym e ∙ h ∙ ap (λ t. t ++ encode_utf8 d) (sym s)) ∙ ap (λ o. chars rest ++ unwrap_or o 0 ∷ []) is

pub returns-in-None-clause-text : goal.returns-in-None-clause-text
returns-in-None-clause-text c = none _ _ _ c.args.text.now c.chars-characters.ensures.rest c.in-None.is c.next_back.ensures.steps

pub returns-in-Some-clause-text : goal.returns-in-Some-clause-text
returns-in-Some-clause-text c =
    without_last (chars c.args.text.now) (chars c.as_str-rest.result.now) c.in-Some.last
    (whole _ _ _ c.args.text.now c.as_str-rest.result.now c.in-Some.last c.chars-characters.ensures.rest c.in-Some.is c.as_str-rest.ensures c.utf8.text c.as_str-rest.utf8 c.next_back.ensures.steps)

pub width_before-requires : goal.width_before-requires
width_before-requires c =
    c.requires ∙ ap (str_width false)
    (whole _ _ _ c.args.text.now c.as_str-rest.result.now c.in-Some.last c.chars-characters.ensures.rest c.in-Some.is c.as_str-rest.ensures c.utf8.text c.as_str-rest.utf8 c.next_back.ensures.steps)

pub returns-in-None-clause-utf8 : goal.returns-in-None-clause-utf8
returns-in-None-clause-utf8 c = c.utf8.text

pub returns-in-Some-clause-utf8 : goal.returns-in-Some-clause-utf8
returns-in-Some-clause-utf8 c = c.as_str-rest.utf8
