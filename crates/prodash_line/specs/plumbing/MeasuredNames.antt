-- Names whose widths are kept.
use Rattle.std.specs.Prelude.{◌≡◌, ℕ, Bool, List, [], ◌∷◌, chars}
use Rattle.prodash_line.specs.Lines.{piece, columns_of}
use Rattle.prodash_line.specs.DrawnLines.{drawn_chars}

-- a text that every renderer draws as it is, in so many columns, capped
pub record IsDrawnAsIs (text : List ℕ) (width : ℕ) : Type 0 where
  pub drawn : (defensive : Bool) → chars text ≡ drawn_chars defensive text
  pub columns : width ≡ columns_of (piece (chars text) ∷ [])
