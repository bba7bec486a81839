-- The row of a plain line, on a terminal that gives characters the columns that the renderer gives them.
use Rattle.std.proofs.Common.{◌≡◌, ℕ, ◌+◌, ◌-◌, ◌≤◌, List, [], ◌∷◌, ◌++◌, length, map, refl, ap, ◌∙◌, arith}
use Rattle.std.specs.Prelude.{min}
use Rattle.std.specs.List.{AllByRecursion}
use Rattle.prodash_line.specs.Lines.{Line, columns_of, line_text}
use Rattle.prodash_line.specs.Fits.{IsPlainChar, IsPlainPiece, IsPlain}
use Rattle.prodash_line.specs.CellRows.{blank_cells, text_columns, or_none, char_columns, joined_with, joined, cells_with, shown}
use Rattle.prodash_line.specs.declared.render.line.page.cell.Cell.{Cell}
use Rattle.prodash_line.specs.declared.render.line.page.cell.Cell.TheVariants.{Holds}
use Rattle.prodash_line.specs.ErasedPages.{line_row}
use Rattle.prodash_line.proofs.Lists.{AllByRecursion-append}
use Rattle.prodash_line.proofs.WholeTexts.{shows_whole}

-- a character in its cell
abbrev alone : ℕ → Cell
alone c = Holds c []

-- each character of a text has its own cell
record HasOwnCells (text : List ℕ) : Type 0 where
  columns : text_columns char_columns text ≡ length text
  none : joined char_columns text ≡ []
  shows : shown char_columns text ≡ map alone text

own_cells : (text : List ℕ) → AllByRecursion IsPlainChar text → HasOwnCells text
own_cells [] h = record { columns = refl; none = refl; shows = refl }
own_cells (c ∷ cs) h =
    let one : char_columns c ≡ 1 = ap or_none h.0.width in
    let others = own_cells cs h.1 in
    record {
      columns = ap (λ (n : ℕ). min n 2 + text_columns char_columns cs) one ∙ omega (arith, others.columns);
      none = ap (λ (n : ℕ). joined_with n c (joined char_columns cs)) one;
      shows = ap (λ (n : ℕ). cells_with n c (joined char_columns cs) (shown char_columns cs)) one
          ∙ ap (λ (js : List ℕ). Holds c js ∷ shown char_columns cs) others.none
          ∙ ap (λ (cells : List Cell). alone c ∷ cells) others.shows;
    }

plain_chars : (line : Line) → AllByRecursion IsPlainPiece line → AllByRecursion IsPlainChar (line_text line)
plain_chars [] h = tt
plain_chars (p ∷ ps) h = AllByRecursion-append IsPlainChar p.text (line_text ps) h.0.each (plain_chars ps h.1)

pub plain_row : (width : ℕ) (line : Line) → IsPlain line → columns_of line ≤ width
    → line_row char_columns width line ≡ map (λ c. Holds c []) (line_text line) ++ blank_cells (width - columns_of line)
plain_row width line h within =
    let text = line_text line in
    let own = own_cells text (plain_chars line h.pieces) in
    let count : text_columns char_columns text ≡ length text = own.columns in
    let size : columns_of line ≡ length text = h.columns in
    shows_whole char_columns width text (omega arith)
    ∙ ap (λ (cells : List Cell). cells ++ blank_cells (width - text_columns char_columns text)) own.shows
    ∙ ap (λ (n : ℕ). map alone text ++ blank_cells (width - n)) (let e : text_columns char_columns text ≡ columns_of line = omega arith in e)
