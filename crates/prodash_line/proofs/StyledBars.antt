-- A bar in a style: its bytes, and its columns.
use Rattle.std.proofs.Common.{◌≡◌, ℕ, zero, suc, ◌+◌, ◌-◌, ◌≤◌, Bool, true, false, List, [], ◌∷◌, ◌++◌, Option, Some, codes, replicate, append_assoc, refl, sym, ap, ◌∙◌, arith}
use Rattle.std.specs.Prelude.{sum_by}
use Rattle.std.specs.Fmt.{decimal, digits}
use Rattle.std.proofs.lemmas.List.Sums.{sum_by-cons}
use Rattle.unicode_width.specs.Width.{str_width}
use Rattle.prodash_line.specs.declared.render.line.page.sign.Sign.TheVariants.{Open}
use Rattle.prodash_line.specs.declared.render.line.page.style.Color.{Color}
use Rattle.prodash_line.specs.declared.render.line.page.style.Style.{Style}
use Rattle.prodash_line.specs.Lines.{piece, styled, width_of}
use Rattle.prodash_line.specs.ProgressRows.{bar_with}
use Rattle.prodash_line.specs.Signs.{spelling_of}
use Rattle.prodash_line.specs.Styles.{color_code}
use Rattle.prodash_line.specs.TextStyles.{dimmed}
use Rattle.prodash_line.specs.plumbing.RowWriting.{styled_run, colored_bar}
use Rattle.prodash_line.specs.plumbing.Writing.{color_alone, line_bytes}
use Rattle.prodash_line.proofs.Columns.{printable-repeated, width-printable, width-repeated}
use Rattle.prodash_line.proofs.Written.{line_bytes-append, line_bytes-printable, line_bytes-styled}

-- ---- its columns

pub bar_columns_sum : (style : Style) (cells filled : ℕ) → filled ≤ cells → cells + 4 ≡ sum_by width_of (bar_with style cells filled)
bar_columns_sum style cells filled within =
    let full = styled (Some style) (replicate filled 61) in
    let arrow = styled (Some style) (codes ">") in
    let others = styled (Some (dimmed style)) (replicate (cells - filled) 45) in
    let end = piece (codes "]") in
    let begin : str_width false (codes " [") ≡ 2 = width-printable (codes " [") refl in
    let one : str_width false (codes ">") ≡ 1 = width-printable (codes ">") refl in
    let last : str_width false (codes "]") ≡ 1 = width-printable (codes "]") refl in
    let first : str_width false (replicate filled 61) ≡ filled = width-repeated filled 61 (omega arith) (omega arith) in
    let second : str_width false (replicate (cells - filled) 45) ≡ cells - filled = width-repeated (cells - filled) 45 (omega arith) (omega arith) in
    omega (
      arith,
      begin,
      one,
      last,
      first,
      second,
      sum_by-cons width_of (piece (codes " [")) (full ∷ arrow ∷ others ∷ end ∷ []),
      sum_by-cons width_of full (arrow ∷ others ∷ end ∷ []),
      sum_by-cons width_of arrow (others ∷ end ∷ []),
      sum_by-cons width_of others (end ∷ []),
      sum_by-cons width_of end [],
    )

-- ---- its bytes

bar_split : (style : Style) (cells filled : ℕ) → line_bytes (bar_with style cells filled)
    ≡ codes " ["
    ++ (line_bytes (styled (Some style) (replicate filled 61) ∷ [])
    ++ (line_bytes (styled (Some style) (codes ">") ∷ []) ++ (line_bytes (styled (Some (dimmed style)) (replicate (cells - filled) 45) ∷ []) ++ codes "]")))
bar_split style cells filled =
    let full = styled (Some style) (replicate filled 61) in
    let arrow = styled (Some style) (codes ">") in
    let others = styled (Some (dimmed style)) (replicate (cells - filled) 45) in
    let end = piece (codes "]") in
    line_bytes-append (piece (codes " [") ∷ []) (full ∷ arrow ∷ others ∷ end ∷ [])
    ∙ ap (λ t. t ++ line_bytes (full ∷ arrow ∷ others ∷ end ∷ [])) (line_bytes-printable (codes " [") refl)
    ∙ ap (λ t. codes " [" ++ t) (line_bytes-append (full ∷ []) (arrow ∷ others ∷ end ∷ [])
    ∙ ap (λ t. line_bytes (full ∷ []) ++ t) (line_bytes-append (arrow ∷ []) (others ∷ end ∷ [])
    ∙ ap (λ t. line_bytes (arrow ∷ []) ++ t) (line_bytes-append (others ∷ []) (end ∷ [])
    ∙ ap (λ t. line_bytes (others ∷ []) ++ t) (line_bytes-printable (codes "]") refl))))

-- part by part
pub bar_parts : (style : Style) (cells filled : ℕ) (old b1 b2 b3 b4 new : List ℕ)
    → b1 ≡ old ++ codes " [" → b2 ≡ b1 ++ line_bytes (styled (Some style) (replicate filled 61) ∷ [])
    → b3 ≡ b2 ++ line_bytes (styled (Some style) (replicate 1 62) ∷ []) → b4 ≡ b3 ++ line_bytes (styled (Some (dimmed style)) (replicate (cells - filled) 45) ∷ [])
    → new ≡ b4 ++ codes "]" → new ≡ old ++ line_bytes (bar_with style cells filled)
bar_parts style cells filled old b1 b2 b3 b4 new e1 e2 e3 e4 en =
    let full = line_bytes (styled (Some style) (replicate filled 61) ∷ []) in
    let arrow = line_bytes (styled (Some style) (replicate 1 62) ∷ []) in
    let others = line_bytes (styled (Some (dimmed style)) (replicate (cells - filled) 45) ∷ []) in
    let end = others ++ codes "]" in
    en ∙ ap (λ t. t ++ codes "]") (e4 ∙ ap (λ t. t ++ others) (e3 ∙ ap (λ t. t ++ arrow) (e2 ∙ ap (λ t. t ++ full) e1)))
    ∙ append_assoc (((old ++ codes " [") ++ full) ++ arrow) others (codes "]")
    ∙ append_assoc ((old ++ codes " [") ++ full) arrow end
    ∙ append_assoc (old ++ codes " [") full (arrow ++ end)
    ∙ append_assoc old (codes " [") (full ++ (arrow ++ end))
    ∙ ap (λ t. old ++ t) (sym (bar_split style cells filled))

-- a run of a byte in a style
run_bytes : (style : Style) (byte n : ℕ) → 32 ≤ byte → byte ≤ 126 → line_bytes (styled (Some style) (replicate n byte) ∷ []) ≡ styled_run (spelling_of (Open style)) byte n
run_bytes style byte zero low high = line_bytes-styled (Some style) [] [] (line_bytes-printable [] refl)
run_bytes style byte (suc n) low high =
    line_bytes-styled (Some style) (replicate (suc n) byte) (replicate (suc n) byte) (line_bytes-printable (replicate (suc n) byte) (printable-repeated (suc n) byte low high))

-- a style that is a colour alone begins with its code, and so does the same style dimmed
abbrev style_with : Bool → Bool → Option Color → Bool → Style
style_with bold dim color on_yellow = record { bold = bold; dim = dim; color = color; on_yellow = on_yellow }

record OpensColor (style : Style) (digit : ℕ) : Type 0 where
  bright : spelling_of (Open style) ≡ 27 ∷ 91 ∷ 51 ∷ digit ∷ 109 ∷ []
  dim : spelling_of (Open (dimmed style)) ≡ 27 ∷ 91 ∷ 50 ∷ 59 ∷ 51 ∷ digit ∷ 109 ∷ []

opens_color : (bold dim : Bool) (color : Option Color) (on_yellow : Bool) (alone : Color) (digit : ℕ) → color_alone (style_with bold dim color on_yellow) ≡ Some alone
    → decimal (color_code alone) ≡ 51 ∷ digit ∷ [] → OpensColor (style_with bold dim color on_yellow) digit
unfolding digits
opens_color false false color false alone digit e d = record {
  bright = ap (λ (c : Option Color). spelling_of (Open (style_with false false c false))) e ∙ ap (λ (it : List ℕ). 27 ∷ 91 ∷ it ++ 109 ∷ []) d;
  dim = ap (λ (c : Option Color). spelling_of (Open (style_with false true c false))) e ∙ ap (λ (it : List ℕ). 27 ∷ 91 ∷ 50 ∷ 59 ∷ it ++ 109 ∷ []) d;
}
opens_color false false color true alone digit e d = cc
opens_color false true color on_yellow alone digit e d = cc
opens_color true dim color on_yellow alone digit e d = cc

-- in a colour alone
pub bar_in_color : (style : Style) (cells filled digit : ℕ) (color : Color) → color_alone style ≡ Some color → decimal (color_code color) ≡ 51 ∷ digit ∷ []
    → colored_bar digit cells filled ≡ line_bytes (bar_with style cells filled)
bar_in_color style cells filled digit color alone code =
    let opens = opens_color style.bold style.dim style.color style.on_yellow color digit alone code in
    let full = run_bytes style 61 filled (omega arith) (omega arith) ∙ ap (λ t. styled_run t 61 filled) opens.bright in
    let arrow = run_bytes style 62 1 (omega arith) (omega arith) ∙ ap (λ t. styled_run t 62 1) opens.bright in
    let others = run_bytes (dimmed style) 45 (cells - filled) (omega arith) (omega arith) ∙ ap (λ t. styled_run t 45 (cells - filled)) opens.dim in
    sym (bar_split style cells filled ∙ (λ i. codes " [" ++ (full i ++ (arrow i ++ (others i ++ codes "]")))))
