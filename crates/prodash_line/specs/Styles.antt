-- Styles, and the parameters of the control function SGR that set them.
use Rattle.std.specs.Prelude.{ℕ, List, [], ◌∷◌, map, option_map, filter_map}
use Rattle.std.specs.Bool.{then_some}
use Rattle.std.specs.Fmt.{decimal}
use Rattle.std.specs.List.{join_with_byte}
use Rattle.prodash_line.specs.declared.render.line.page.style.Color.{Color}
use Rattle.prodash_line.specs.declared.render.line.page.style.Color.TheVariants.{Red, Green, Yellow, Cyan, White}
use Rattle.prodash_line.specs.declared.render.line.page.style.Style.{Style}

-- the code of a text colour
abbrev pub color_code : Color → ℕ
color_code Red = 31
color_code Green = 32
color_code Yellow = 33
color_code Cyan = 36
color_code White = 37

-- the codes of a style, in ascending order
abbrev pub style_codes : Style → List ℕ
style_codes s = filter_map (λ code. code) (then_some s.bold 1 ∷ then_some s.dim 2 ∷ option_map color_code s.color ∷ then_some s.on_yellow 43 ∷ [])

-- the codes of a style in decimal, with `;` between each two
abbrev pub style_parameters : Style → List ℕ
style_parameters s = join_with_byte 59 (map decimal (style_codes s))
