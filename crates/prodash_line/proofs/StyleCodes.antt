-- Styles by their codes: no two styles have the same codes.
use Rattle.std.proofs.Common.{◌≡◌, ℕ, ◌^◌, ◌<◌, Bool, true, false, cond, Option, Some, None, List, [], ◌∷◌, ◌++◌, refl, sym, ap, ◌∙◌, arith}
use Rattle.std.specs.Prelude.{◌==◌, ◌||◌, option_map}
use Rattle.std.specs.Bool.{then_some}
use Rattle.std.specs.List.{AllByRecursion, cons_option}
use Rattle.std.specs.Option.{is_some}
use Rattle.std.proofs.lemmas.Bool.{both_ways, eqb-true}
use Rattle.prodash_line.specs.declared.render.line.page.style.Color.{Color}
use Rattle.prodash_line.specs.declared.render.line.page.style.Color.TheVariants.{Red, Green, Yellow, Cyan, White}
use Rattle.prodash_line.specs.declared.render.line.page.style.Style.{Style}
use Rattle.prodash_line.specs.Styles.{color_code, style_codes}

abbrev style_with : Bool → Bool → Option Color → Bool → Style
style_with bold dim color on_yellow = record { bold = bold; dim = dim; color = color; on_yellow = on_yellow }

abbrev plain : Style
plain = style_with false false None false

-- the colour that has this code, if one does
abbrev color_at : ℕ → Option Color
color_at code = cond (code == 31) (Some Red) (cond (code == 32) (Some Green) (cond (code == 33) (Some Yellow) (cond (code == 36) (Some Cyan) (cond (code == 37) (Some White) None))))

abbrev with_color : Style → ℕ → Option Style
with_color s code = option_map (λ color. record s { color = Some color }) (color_at code)

-- the style with one code more, if that comes after all that the style has
abbrev with_code : Style → ℕ → Option Style
with_code s code = cond (code == 43) (then_some (cond s.on_yellow false true) (record s { on_yellow = true })) (cond (is_some s.color || s.on_yellow) None
    (cond (code == 1) (then_some (cond s.bold false (cond s.dim false true)) (record s { bold = true })) (cond (code == 2) (then_some (cond s.dim false true) (record s { dim = true })) (with_color s code))))

-- the same with each of these codes in turn
abbrev with_codes : Option Style → List ℕ → Option Style
with_codes None codes = None
with_codes (Some s) [] = Some s
with_codes (Some s) (code ∷ codes) = with_codes (with_code s code) codes

-- the style that has these codes, if one does
abbrev pub style_of : List ℕ → Option Style
style_of codes = with_codes (Some plain) codes

with_codes-append : (o : Option Style) (xs ys : List ℕ) → with_codes o (xs ++ ys) ≡ with_codes (with_codes o xs) ys
with_codes-append None xs ys = refl
with_codes-append (Some s) [] ys = refl
with_codes-append (Some s) (x ∷ xs) ys = with_codes-append (with_code s x) xs ys

ground : (bold dim on_yellow : Bool) (color : Option Color) → with_codes (Some (style_with bold dim color false)) (cons_option (then_some on_yellow 43) []) ≡ Some (style_with bold dim color on_yellow)
ground bold dim true color = refl
ground bold dim false color = refl

colored : (bold dim on_yellow : Bool) (color : Option Color)
    → with_codes (Some (style_with bold dim None false)) (cons_option (option_map color_code color) (cons_option (then_some on_yellow 43) [])) ≡ Some (style_with bold dim color on_yellow)
colored bold dim on_yellow None = ground bold dim on_yellow None
colored bold dim on_yellow (Some Red) = ground bold dim on_yellow (Some Red)
colored bold dim on_yellow (Some Green) = ground bold dim on_yellow (Some Green)
colored bold dim on_yellow (Some Yellow) = ground bold dim on_yellow (Some Yellow)
colored bold dim on_yellow (Some Cyan) = ground bold dim on_yellow (Some Cyan)
colored bold dim on_yellow (Some White) = ground bold dim on_yellow (Some White)

dimmed : (bold dim on_yellow : Bool) (color : Option Color)
    → with_codes (Some (style_with bold false None false)) (cons_option (then_some dim 2) (cons_option (option_map color_code color) (cons_option (then_some on_yellow 43) []))) ≡ Some (style_with bold dim color on_yellow)
dimmed bold true on_yellow color = colored bold true on_yellow color
dimmed bold false on_yellow color = colored bold false on_yellow color

bold_too : (bold dim on_yellow : Bool) (color : Option Color) → style_of (style_codes (style_with bold dim color on_yellow)) ≡ Some (style_with bold dim color on_yellow)
bold_too true dim on_yellow color = dimmed true dim on_yellow color
bold_too false dim on_yellow color = dimmed false dim on_yellow color

-- a style is found by its codes
pub style_of-codes : (s : Style) → style_of (style_codes s) ≡ Some s
style_of-codes s = bold_too s.bold s.dim s.on_yellow s.color

-- a code that cannot follow those of a style does so in no style
pub none_follows : (s other : Style) (code : ℕ) (rest : List ℕ) → with_code s code ≡ None → style_codes other ≡ style_codes s ++ code ∷ rest → ⊥
none_follows s other code rest none e =
    let some : Some other ≡ with_codes (Some s) (code ∷ rest) = sym (style_of-codes other) ∙ ap style_of e ∙ with_codes-append (Some plain) (style_codes s) (code ∷ rest) ∙ ap (λ (o : Option Style). with_codes o (code ∷ rest)) (style_of-codes s) in
    let clash : Some other ≡ None = some ∙ ap (λ (o : Option Style). with_codes o rest) none in
    cc

refused : (last has yellow : Bool) (s : Style) (more : Option Style) → has ≡ true → (last ≡ true → yellow ≡ true) → cond last (then_some (cond yellow false true) s) (cond has None more) ≡ None
refused true has true s more h g = refl
refused true has false s more h g = absurd (both_ways false refl (g refl))
refused false true yellow s more h g = refl
refused false false yellow s more h g = absurd (both_ways false refl h)

-- the second of two, if not the first
pub or_else : (a b : Bool) → b ≡ true → a || b ≡ true
or_else true b h = refl
or_else false b h = h

-- nothing but 43 follows a colour, and nothing follows 43
pub none_after_color : (s other : Style) (code : ℕ) (rest : List ℕ) → is_some s.color || s.on_yellow ≡ true → (code ≡ 43 → s.on_yellow ≡ true) → style_codes other ≡ style_codes s ++ code ∷ rest → ⊥
none_after_color s other code rest has last e = none_follows s other code rest (refused (code == 43) (is_some s.color || s.on_yellow) s.on_yellow _ _ has (λ is. last (eqb-true code 43 is))) e

-- a code of a style
abbrev pub IsCode : ℕ → Type 0
IsCode code = (0 < code) × (code < 2 ^ 16)

pub color_is_code : (color : Color) → IsCode (color_code color)
color_is_code Red = (omega arith, omega arith)
color_is_code Green = (omega arith, omega arith)
color_is_code Yellow = (omega arith, omega arith)
color_is_code Cyan = (omega arith, omega arith)
color_is_code White = (omega arith, omega arith)

code_before : (b : Bool) (code : ℕ) (codes : List ℕ) → IsCode code → AllByRecursion IsCode codes → AllByRecursion IsCode (cons_option (then_some b code) codes)
code_before true code codes h hs = (h, hs)
code_before false code codes h hs = hs

color_before : (color : Option Color) (codes : List ℕ) → AllByRecursion IsCode codes → AllByRecursion IsCode (cons_option (option_map color_code color) codes)
color_before None codes hs = hs
color_before (Some color) codes hs = (color_is_code color, hs)

-- each code of a style is from 1 to 65535
pub are_codes : (s : Style) → AllByRecursion IsCode (style_codes s)
are_codes s = code_before s.bold 1 _ (omega arith, omega arith) (code_before s.dim 2 _ (omega arith, omega arith) (color_before s.color _ (code_before s.on_yellow 43 [] (omega arith, omega arith) tt)))
