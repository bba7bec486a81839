use Rattle.std.proofs.Common.{◌≡◌, ◌∷◌, ◌++◌, [], ℕ, Bool, true, false, Option, Some, List, ap, sym, subst, ◌∙◌}
use Rattle.std.specs.Prelude.{OnOk}
use Rattle.std.specs.Fmt.{decimal, digits}
use Rattle.prodash_line.specs.declared.render.line.page.sign.Sign.TheVariants.{Open}
use Rattle.prodash_line.specs.declared.render.line.page.style.Color.{Color}
use Rattle.prodash_line.specs.Signs.{spelling_of}
use Rattle.prodash_line.specs.Styles.{color_code}
use Rattle.prodash_line.proofs.render.line.page.writing.push_open.Goals as goal

-- what begins the style that has these fields
abbrev open_of : Bool → Bool → Option Color → Bool → List ℕ
open_of bold dim color on_yellow = spelling_of (Open (record { bold = bold; dim = dim; color = color; on_yellow = on_yellow }))

-- what begins a style is what begins the one of its fields
of_fields : {b b2 d d2 : Bool} {x x2 : Option Color} {y y2 : Bool} → b2 ≡ b → d2 ≡ d → x2 ≡ x → y2 ≡ y → open_of b d x y ≡ open_of b2 d2 x2 y2
of_fields {b} {b2} {d} {d2} {x} {x2} {y} {y2} bold dim color on_yellow =
    ap (λ (it : Bool). open_of it d x y) (sym bold)
    ∙ ap (λ (it : Bool). open_of b2 it x y) (sym dim)
    ∙ ap (λ (it : Option Color). open_of b2 d2 it y) (sym color)
    ∙ ap (λ (it : Bool). open_of b2 d2 x2 it) (sym on_yellow)

-- a code before that of a colour
with_code : (code : ℕ) (color : Color) (digit : ℕ) → decimal (color_code color) ≡ 51 ∷ digit ∷ [] → 27 ∷ 91 ∷ code ∷ 59 ∷ 51 ∷ digit ∷ 109 ∷ [] ≡ 27 ∷ 91 ∷ code ∷ 59 ∷ decimal (color_code color) ++ 109 ∷ []
with_code code color digit is = ap (λ (it : List ℕ). 27 ∷ 91 ∷ code ∷ 59 ∷ it ++ 109 ∷ []) (sym is)

pub returns-in-true-true-None : goal.returns-in-true-true-None
unfolding digits
returns-in-true-true-None c =
    let same : 27 ∷ 91 ∷ 49 ∷ 59 ∷ 50 ∷ 109 ∷ [] ≡ spelling_of (Open c.args.style) = of_fields c.in-true-true-None.is-0 c.in-true-true-None.is-1 c.in-true-true-None.is-2 c.if-style.false in
    subst (λ (it : List ℕ). OnOk c.extend_from_slice.result (c.extend_from_slice.new.self ≡ c.args.out.now ++ it)) same c.extend_from_slice.ensures

pub returns-in-true-false-Some : goal.returns-in-true-false-Some
unfolding digits
returns-in-true-false-Some c =
    let same : open_of true false (Some c.in-true-false-Some.color) false ≡ spelling_of (Open c.args.style) = of_fields c.in-true-false-Some.is-0 c.in-true-false-Some.is-1 c.in-true-false-Some.is-2 c.if-style.false in
    let bytes : 27 ∷ 91 ∷ 49 ∷ 59 ∷ 51 ∷ c.last_digit.result ∷ 109 ∷ [] ≡ spelling_of (Open c.args.style) = with_code 49 c.in-true-false-Some.color c.last_digit.result c.last_digit.ensures ∙ same in
    subst (λ (it : List ℕ). OnOk c.extend_from_slice-in-true-false-Some.result (c.extend_from_slice-in-true-false-Some.new.self ≡ c.args.out.now ++ it)) bytes c.extend_from_slice-in-true-false-Some.ensures

pub returns-in-false-true-Some : goal.returns-in-false-true-Some
unfolding digits
returns-in-false-true-Some c =
    let same : open_of false true (Some c.in-false-true-Some.color) false ≡ spelling_of (Open c.args.style) = of_fields c.in-false-true-Some.is-0 c.in-false-true-Some.is-1 c.in-false-true-Some.is-2 c.if-style.false in
    let bytes : 27 ∷ 91 ∷ 50 ∷ 59 ∷ 51 ∷ c.last_digit-in-false-true-Some.result ∷ 109 ∷ [] ≡ spelling_of (Open c.args.style) = with_code 50 c.in-false-true-Some.color c.last_digit-in-false-true-Some.result c.last_digit-in-false-true-Some.ensures ∙ same in
    subst (λ (it : List ℕ). OnOk c.extend_from_slice-in-false-true-Some.result (c.extend_from_slice-in-false-true-Some.new.self ≡ c.args.out.now ++ it)) bytes c.extend_from_slice-in-false-true-Some.ensures
